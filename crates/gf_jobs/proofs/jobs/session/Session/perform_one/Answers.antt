use Rattle.std.proofs.Common.{Err, Ok, refl}
use Rattle.gf_jobs.specs.Performs.{opened, unopened}
use Rattle.gf_jobs.proofs.jobs.session.Session.perform_one.Goals as goal

pub returns-in-Err-clause-performed : goal.returns-in-Err-clause-performed
returns-in-Err-clause-performed g c =
    unopened c.in-Err.ensures.1 refl (rw (
      c.called-name.ensures,
      c.nothing_kept-kept.ensures,
      c.in-Err.ensures.0,
    ) at c.report_explained.ensures)

pub returns-in-Ok-run_one-clause-performed : goal.returns-in-Ok-run_one-clause-performed
returns-in-Ok-run_one-clause-performed g c = opened (Ok tt) _ _ _ c.in-Ok.ensures.0
    c.in-Ok.ensures.1 (refl, c.in-Ok-run_one.ensures) (refl, refl)

pub returns-clause-performed : goal.returns-clause-performed
returns-clause-performed g c = opened (Err c.in-Err-run_one.fault) _ _ _ c.in-Ok.ensures.0
    c.in-Ok.ensures.1 (refl, c.in-Err-run_one.ensures)
    (rw (c.called-name.ensures, c.bytes.ensures, c.failed_run-failed.ensures) at
    c.report_explained-in-Err-run_one.ensures)
