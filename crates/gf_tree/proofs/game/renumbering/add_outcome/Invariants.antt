use Rattle.gf_tree.proofs.Common.{◌≡◌, take}
use Rattle.gf_tree.proofs.game.renumbering.add_outcome.Given as goal

abbrev pub invariant-loop-payoff : goal.invariant-loop-payoff
invariant-loop-payoff l =
    (l.to.known ≡ l.fn.to.known) × (l.to.pending ≡ take l.payoff-index l.payoff-items)
