use Rattle.gf_form.proofs.Common.{◌≡◌, take, product, action_counts}
use Rattle.gf_form.proofs.strategies.counts.own_counts.Given as goal

abbrev pub invariant-loop-before : goal.invariant-loop-before
invariant-loop-before l =
    (l.actions.items ≡ take l.before (action_counts l.game l.player))
    × (l.strategies.count ≡ product (take l.before (action_counts l.game l.player)))
