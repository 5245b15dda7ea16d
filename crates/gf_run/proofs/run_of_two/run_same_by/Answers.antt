use Rattle.std.proofs.Common.{refl}
use Rattle.gf_run.specs.Run.{read, unread}
use Rattle.gf_run.proofs.Errors.{is_error}
use Rattle.gf_run.proofs.Written.{written}
use Rattle.gf_run.proofs.run_of_two.run_same_by.Goals as goal

pub returns-in_err-first : goal.returns-in_err-first
returns-in_err-first g c =
    unread _ (is_error _ _ c.from_residual.ensures.1) c.in_err-first.ensures.part refl

pub returns : goal.returns
returns g c = read _ c.in_ok-first.ensures.whole
    (written _ _ _ _ _ _ _
    (rw (c.as_slice.ensures.value, c.as_slice-2.ensures.value) at c.compare-answer.ensures)
    c.write_answer.ensures)
