use Rattle.gf_canon.specs.declared.kind.FileKind.{FileKind}
use Rattle.gf_run.proofs.Offered.{is_error}
use Rattle.gf_jobs.proofs.jobs.one_file.run_one.Goals as goal

pub returns-in-Kept : goal.returns-in-Kept
returns-in-Kept g c = rw (c.in-Canon.is, c.in-Kept.is) c.run_canon.ensures

pub returns-in-Aside : goal.returns-in-Aside
returns-in-Aside g c = rw c.in-Canon.is c.run_canon_by.ensures

pub returns-in_ok-run_check-in-Check : goal.returns-in_ok-run_check-in-Check
returns-in_ok-run_check-in-Check g c =
    let ok = c.in_ok-run_check-in-Check in rw c.in-Check.is (ok.field-0, ok.ensures)

pub returns-in_err-run_check-in-Check : goal.returns-in_err-run_check-in-Check
returns-in_err-run_check-in-Check g c = rw (c.in-Check.is, is_error _ _ c.from_residual.ensures.1)
    (FileKind.Tree, c.in_err-run_check-in-Check.ensures)

pub returns-in-Pure : goal.returns-in-Pure
returns-in-Pure g c = rw (c.in-Table.is, c.in-Pure.is) c.run_table.ensures

pub returns-in-Reduced : goal.returns-in-Reduced
returns-in-Reduced g c =
    rw (c.in-Table.is, c.in-Reduced.is) c.run_table_reduced.ensures
