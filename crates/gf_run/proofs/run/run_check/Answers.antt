use Rattle.std.proofs.Common.{refl}
use Rattle.gf_run.specs.Run.{answered, cut_off, read, refused, unread}
use Rattle.gf_run.proofs.Errors.{is_error}
use Rattle.gf_run.proofs.run.run_check.Goals as goal

pub returns-in_err-bytes : goal.returns-in_err-bytes
returns-in_err-bytes g c =
    unread _ (is_error _ _ c.from_residual.ensures.1) c.in_err-bytes.ensures.part refl

pub returns-in_err-kind : goal.returns-in_err-kind
returns-in_err-kind g c = read _ c.in_ok-bytes.ensures.whole
    (refused _ (is_error _ _ c.from_residual-in_err-kind.ensures.1)
    (rw c.as_slice.ensures.value at c.in_err-kind.ensures) refl)

pub returns-in_err-push_all : goal.returns-in_err-push_all
returns-in_err-push_all g c = read _ c.in_ok-bytes.ensures.whole
    (cut_off c.in_ok-kind.kind _ (is_error _ _ c.from_residual-in_err-push_all.ensures.1)
    (rw c.as_slice.ensures.value at c.in_ok-kind.ensures, c.kind_line.ensures)
    c.in_err-push_all.ensures.part)

pub returns : goal.returns
returns g c = read _ c.in_ok-bytes.ensures.whole (answered c.in_ok-kind.kind _ refl
    (rw c.as_slice.ensures.value at c.in_ok-kind.ensures, c.kind_line.ensures)
    c.in_ok-push_all.ensures.all)
