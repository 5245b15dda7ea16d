use Rattle.gf_form.proofs.Common.{◌≡◌, map, take, Game, AreCounts, strategy_labels, players_of}
use Rattle.gf_form.proofs.strategies.labels.all_labels.Given as goal

abbrev pub invariant-loop-place : goal.invariant-loop-place
invariant-loop-place l = (g : Game) → AreCounts g l.counts
    → l.all.items ≡ take l.place (map (strategy_labels g) (players_of g))
