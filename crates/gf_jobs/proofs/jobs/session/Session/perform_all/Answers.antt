use Rattle.std.proofs.Common.{refl}
use Rattle.gf_jobs.specs.Performs.{found, unlisted}
use Rattle.gf_jobs.proofs.Reported.{told}
use Rattle.gf_jobs.proofs.jobs.session.Session.perform_all.Goals as goal

pub returns-in-Ok-clause-performed : goal.returns-in-Ok-clause-performed
returns-in-Ok-clause-performed g c =
    let said = told g.E.Sink.writer _ _ _ c.push_all.result c.push_all.ensures.all
    c.push_all.ensures.part in
    let (names, are_names, seen, are_files) = c.in-Ok.ensures.files in
    found names c.in-Ok.found.files.items c.in-Ok.found.without_games.items _ are_names refl
    seen (rw c.repeats.ensures at are_files) (rw c.as_slice.ensures.value at said)
    (rw c.as_slice-in-Ok.ensures.value at c.run_task.ensures.done)

pub returns-in-Err-clause-performed : goal.returns-in-Err-clause-performed
returns-in-Err-clause-performed g c =
    unlisted c.in-Err.failed.fault c.in-Err.ensures.fault refl c.report_unlisted.ensures
