use Rattle.std.proofs.Common.{Err, Ok, refl}
use Rattle.gf_run.proofs.Offered.{written}
use Rattle.gf_jobs.proofs.jobs.session.Session.close.Goals as goal

pub returns-in-Ok-clause-closed : goal.returns-in-Ok-clause-closed
returns-in-Ok-clause-closed g c = λ files is. rw c.in-Duplicates.is (
  Ok c.in-Ok.apart,
  refl,
  written _ _ _ _ _ _ _ (c.text.ensures files is) c.in-Ok.ensures,
  (c.answer_status.ensures, refl),
)

pub returns-in-Err-clause-closed : goal.returns-in-Err-clause-closed
returns-in-Err-clause-closed g c = λ files is. rw c.in-Duplicates.is (
  Err c.in-Err.fault,
  refl,
  written _ _ _ _ _ _ _ (c.text.ensures files is) c.in-Err.ensures,
  rw c.nothing_kept-kept.ensures at c.report_explained.ensures,
)
