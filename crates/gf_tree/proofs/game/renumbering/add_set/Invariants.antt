use Rattle.gf_tree.proofs.Common.{◌≡◌, map, take, action_of}
use Rattle.gf_tree.proofs.game.renumbering.add_set.Given as goal

abbrev pub invariant-loop-action : goal.invariant-loop-action
invariant-loop-action l =
    (l.to.known ≡ l.fn.to.known)
    × (l.to.pending ≡ map action_of (take l.action-index l.action-items))
