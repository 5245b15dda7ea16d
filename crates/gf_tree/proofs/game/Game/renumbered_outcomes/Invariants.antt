use Rattle.gf_tree.proofs.Common.{◌≡◌, ◌<◌, ◌^◌, [], take, AllByRecursion, listed_numbers}
use Rattle.gf_tree.proofs.Common.{renumbered}
use Rattle.gf_tree.proofs.game.Game.renumbered_outcomes.Given as goal

abbrev pub invariant-loop-place : goal.invariant-loop-place
invariant-loop-place l =
    (l.renumbered.known
    ≡ take l.place (renumbered (listed_numbers l.self [] l.outcomes) l.self).outcomes)
    × AllByRecursion (λ o. o.key < 2 ^ 32) l.renumbered.known
