use Rattle.gf_nfg.proofs.Common.{◌≡◌, length, ◌↔◌}
use Rattle.gf_nfg.proofs.table.payoffs_in_turn.same_left.Given as goal

abbrev pub invariant-loop-payoff : goal.invariant-loop-payoff
invariant-loop-payoff l = (l.fn.a ≡ l.fn.b) ↔ (l.left ≡ l.right)

abbrev pub decreases-loop-payoff : goal.decreases-loop-payoff
decreases-loop-payoff l = length l.left
