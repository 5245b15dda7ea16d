use Rattle.gf_tree.proofs.Common.{◌≡◌, ◌<◌, ◌^◌, [], map, take, AllByRecursion, listed_numbers}
use Rattle.gf_tree.proofs.Common.{renumbered}
use Rattle.gf_tree.proofs.game.Game.renumbered_sets.Given as goal

abbrev pub invariant-loop-place : goal.invariant-loop-place
invariant-loop-place l =
    (l.renumbered.known ≡ take l.place
    (renumbered (listed_numbers l.self (map (λ own. own.items) l.sets) []) l.self).sets)
    × AllByRecursion (λ s. s.key.number < 2 ^ 32) l.renumbered.known
