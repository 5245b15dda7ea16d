use Rattle.gf_form.proofs.Common.{arith}
use Rattle.gf_form.proofs.lemmas.values.Walks.{own_is}
use Rattle.gf_form.proofs.values.walk.Walk.close.Goals as goal

pub returns-clause-gives : goal.returns-clause-gives
returns-clause-gives c = (
  c.in_ok-pay.ensures.row _ (rw c.at.ensures (c.requires.walk.paid.row c.outcome_position.result))
      c.requires.row,
  λ k. grind (arith, own_is, c.in_ok-pay.ensures.added k),
  omega arith,
)
