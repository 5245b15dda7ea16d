use Rattle.gf_canon.proofs.Common.{◌≡◌, ◌++◌, drop, Keeps}
use Rattle.gf_canon.proofs.lemmas.texts.Fields.{payoffs_left}
use Rattle.gf_canon.proofs.text.braces.write_payoffs.Given as goal

abbrev pub invariant-loop-payoff : goal.invariant-loop-payoff
invariant-loop-payoff l =
    (l.out.items ++ payoffs_left (drop l.payoff-index l.payoffs)
    ≡ l.initial.out.items ++ payoffs_left l.payoffs)
    × Keeps l.fn.out.items l.out.items
