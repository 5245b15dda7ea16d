use Rattle.gf_tree.proofs.Common.{arith}
use Rattle.std.proofs.lemmas.Grind.{common_steps}
use Rattle.gf_tree.proofs.game.branch.Branch.child.Goals as goal

pub child_place-requires-clause-child : goal.child_place-requires-clause-child
child_place-requires-clause-child c = grind (arith, common_steps)
