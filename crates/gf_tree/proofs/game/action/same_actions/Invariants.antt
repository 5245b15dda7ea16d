use Rattle.gf_tree.proofs.Common.{◌≡◌, take, actions_of}
use Rattle.gf_tree.proofs.game.action.same_actions.Given as goal

abbrev pub invariant-loop-at : goal.invariant-loop-at
invariant-loop-at l = take l.at (actions_of l.a) ≡ take l.at (actions_of l.b)
