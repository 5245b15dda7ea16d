use Rattle.gf_run.proofs.Asked.{nothing_yet}
use Rattle.gf_run.proofs.Errors.{only_error}
use Rattle.gf_run.proofs.texts.answer.push_text.Goals as goal

pub loop-output-init : goal.loop-output-init
loop-output-init g c = nothing_yet _ _ _

pub loop-output-preserved : goal.loop-output-preserved
loop-output-preserved g c = c.in_ok-push_all.ensures.next _ _ _
    (rw c.piece.ensures (rw c.loop-output-test.ensures.given at c.loop-output.invariant))

pub returns-in_err-push_all-clause-part : goal.returns-in_err-push_all-clause-part
returns-in_err-push_all-clause-part g c = only_error _ _ _ _ c.from_residual.ensures.1
    (c.in_err-push_all.ensures.next _ _ c.advance.new.self.rest
    (rw c.piece.ensures (rw c.loop-output-test.ensures.given at c.loop-output.invariant)))
