use Rattle.std.proofs.Common.{arith, refl}
use Rattle.gf_jobs.specs.Performs.{both_opened, one_unopened}
use Rattle.gf_jobs.proofs.Reported.{opened_as, unopened_one}
use Rattle.gf_jobs.proofs.jobs.session.Session.perform_same.Goals as goal
use Rattle.gf_jobs.proofs.jobs.session.Session.perform_same.Goals.{else-eq, then-eq}

pub returns-in-Err-clause-performed : goal.returns-in-Err-clause-performed
returns-in-Err-clause-performed g c =
    let opens = opened_as g.I.Inputs.opener _ _ _ _ _ _ _ c.file_named.ensures c.file_named-2.ensures
    c.in-Err.ensures in
    let name = unopened_one c.in-Err.which c.args.a.now c.args.b.now c.if-eq.name.now
    (λ is. elim c.if-eq.branch [
      | then-eq w ↦ grind (arith, w.name-is)
      | else-eq w ↦ grind (arith, w.if-eq, c.eq.ensures)
    ])
    (λ other. elim c.if-eq.branch [
      | then-eq w ↦ grind (arith, w.if-eq, c.eq.ensures)
      | else-eq w ↦ grind (arith, w.name-is)
    ]) in
    one_unopened c.in-Err.which c.in-Err.error opens refl
    (rw (name, c.nothing_kept-kept.ensures) at c.report_explained.ensures)

pub returns-clause-performed : goal.returns-clause-performed
returns-clause-performed g c =
    let opens = rw (c.file_named.ensures, c.file_named-2.ensures) at c.in-Ok.ensures in
    both_opened c.new-first.result c.run_two-run.new.first c.new-second.result
    c.run_two-run.new.second c.run_two-run.result
    (rw (c.new-first.ensures.source, c.new-second.ensures.source) opens)
    c.new-first.ensures.bytes c.new-second.ensures.bytes c.run_two-run.ensures c.end_of.ensures
