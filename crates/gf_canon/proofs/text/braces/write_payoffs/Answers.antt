use Rattle.gf_canon.proofs.Common.{arith, at_drop_all, map}
use Rattle.gf_fraction.specs.NumberText.{number_text}
use Rattle.gf_canon.proofs.lemmas.texts.Fields.{payoffs_left, list_closed}
use Rattle.gf_canon.proofs.text.braces.write_payoffs.Goals as goal

pub returns-clause-text : goal.returns-clause-text
returns-clause-text c =
    list_closed (map number_text c.args.payoffs.now) _ _ _ _ _
    c.in_ok-extend_from_slice.ensures.items c.in_ok-push-2.ensures.items
    (at_drop_all payoffs_left c.args.payoffs.now c.loop-payoff.payoff-index (omega arith))
    c.loop-payoff.invariant.0
