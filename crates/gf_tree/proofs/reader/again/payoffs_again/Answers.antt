use Rattle.gf_tree.proofs.Common.{◌∙◌, ◌+◌, ◌∷◌, ap, sym, drop, false, rules, at_drop_more, Ratio}
use Rattle.gf_tree.proofs.Common.{KnownPayoff, heard}
use Rattle.gf_tree.proofs.lemmas.reader.Steps.{carried, goes_back}
use Rattle.gf_tree.proofs.reader.again.payoffs_again.Goals as goal

pub returns-in_err-payoff_again-clause-machine : goal.returns-in_err-payoff_again-clause-machine
returns-in_err-payoff_again-clause-machine c = λ content.
    let i = c.loop-payoff.payoff-index in
    let others = drop (i + 1) c.args.payoffs.now in
    goes_back _ (search rules) (carried (c.in_err-payoff_again.ensures.machine content others)
    (c.loop-payoff.invariant.goes content
    ∙ at_drop_more (λ payoffs. heard (KnownPayoff false payoffs) content c.loop-payoff.tokens)
    c.args.payoffs.now i c.payoff-item.result c.loop-payoff-test.true
    ∙ ap (λ (p : Ratio). heard (KnownPayoff false (p ∷ others)) content c.loop-payoff.tokens)
    (sym c.payoff-item.is)))
