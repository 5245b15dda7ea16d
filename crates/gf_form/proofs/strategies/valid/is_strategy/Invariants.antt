use Rattle.gf_form.proofs.Common.{ℕ, ◌<◌, ◌≤◌, get_or, action_counts}
use Rattle.gf_form.proofs.strategies.valid.is_strategy.Given as goal

abbrev pub invariant-loop-before : goal.invariant-loop-before
invariant-loop-before l = (k : ℕ) → k < l.before
    → (1 ≤ get_or l.strategy k 0)
    × (get_or l.strategy k 0 ≤ get_or (action_counts l.game l.player) k 0)
