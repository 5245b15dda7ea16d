use Rattle.std.proofs.Common.{refl}
use Rattle.gf_run.specs.Run.{answered, cut_off}
use Rattle.gf_run.proofs.Errors.{is_error}
use Rattle.gf_run.proofs.texts.answer.write_answer.Goals as goal

pub returns-in_err-push_text : goal.returns-in_err-push_text
returns-in_err-push_text g c = rw c.in_ok-value.was
    (cut_off c.in_ok-value.field-0.value c.in_ok-value.field-0.text.rest
    (is_error _ _ c.from_residual-in_err-push_text.ensures.1) (refl, refl)
    c.in_err-push_text.ensures.part)

pub returns : goal.returns
returns g c =
    rw c.in_ok-value.was (answered c.in_ok-value.field-0.value c.in_ok-value.field-0.text.rest refl
    (refl, refl) c.in_ok-push_text.ensures.all)
