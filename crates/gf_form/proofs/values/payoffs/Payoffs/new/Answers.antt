use Rattle.gf_form.proofs.Common.{map-append, arith}
use Rattle.gf_form.proofs.lemmas.values.Walks.{all_rows, one_row}
use Rattle.gf_form.proofs.values.payoffs.Payoffs.new.Goals as goal

pub loop-before-preserved : goal.loop-before-preserved
loop-before-preserved c =
    rw c.in_ok-push.ensures.items (rw map-append
    (one_row c.args.game.now _ _ _ c.loop-before.invariant
    (record { paid_is = c.payoffs_at.ensures.paid; row_is = c.payoffs_at.ensures.row })))

pub returns : goal.returns
returns c = grind (arith, all_rows)
