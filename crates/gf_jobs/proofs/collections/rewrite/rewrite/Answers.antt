use Rattle.std.proofs.Common.{refl}
use Rattle.gf_run.specs.Run.{read, unread}
use Rattle.gf_jobs.proofs.collections.rewrite.rewrite.Goals as goal

pub returns-in-Ok : goal.returns-in-Ok
returns-in-Ok g c = read _ c.in-Ok.ensures.whole (rw c.as_slice.ensures.value at c.put_text.ensures)

pub returns-in-Err : goal.returns-in-Err
returns-in-Err g c = unread _ refl c.in-Err.ensures.part refl
