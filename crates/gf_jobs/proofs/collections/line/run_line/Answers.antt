use Rattle.std.proofs.Common.{refl}
use Rattle.gf_run.specs.Run.{read, unread}
use Rattle.gf_run.proofs.Offered.{is_error, written}
use Rattle.gf_jobs.proofs.collections.line.run_line.Goals as goal

pub returns-in_err-bytes : goal.returns-in_err-bytes
returns-in_err-bytes g c =
    unread _ (is_error _ _ c.from_residual.ensures.1) c.in_err-bytes.ensures.part refl

pub returns : goal.returns
returns g c = read _ c.in_ok-bytes.ensures.whole
    (written _ _ _ _ _ _ _ (rw c.as_slice.ensures.value at c.said_of.ensures) c.write_answer.ensures)
