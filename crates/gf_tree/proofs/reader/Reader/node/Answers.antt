use Rattle.std.proofs.lemmas.Grind.{common_steps}
use Rattle.gf_tree.proofs.Common.{arith}
use Rattle.gf_tree.proofs.reader.Reader.node.Goals as goal

pub returns-then-is_empty-clause-machine : goal.returns-then-is_empty-clause-machine
returns-then-is_empty-clause-machine g c = grind (arith, common_steps)

pub returns-then-eq-2-clause-machine : goal.returns-then-eq-2-clause-machine
returns-then-eq-2-clause-machine g c = grind (arith, common_steps)
