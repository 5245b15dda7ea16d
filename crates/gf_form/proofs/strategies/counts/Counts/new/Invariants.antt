use Rattle.gf_form.proofs.Common.{◌≡◌, map, take, product, action_counts, players_of}
use Rattle.gf_form.proofs.lemmas.strategies.CountedActions.{strategy_counts}
use Rattle.gf_form.proofs.strategies.counts.Counts.new.Given as goal

abbrev pub invariant-loop-before : goal.invariant-loop-before
invariant-loop-before l =
    (map (λ own. own.items) l.actions.items
    ≡ take l.before (map (action_counts l.game) (players_of l.game)))
    × (l.strategies.items ≡ take l.before (strategy_counts l.game))
    × (l.profiles.count ≡ product (take l.before (strategy_counts l.game)))
