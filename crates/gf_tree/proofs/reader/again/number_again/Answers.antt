use Rattle.gf_tree.proofs.Common.{arith}
use Rattle.gf_fraction.proofs.Offered.{number_answers}
use Rattle.gf_tree.proofs.reader.again.number_again.Goals as goal

pub returns-else-eq : goal.returns-else-eq
returns-else-eq c = grind (arith, number_answers)

pub returns-in-Err : goal.returns-in-Err
returns-in-Err c = grind (arith, number_answers)

pub returns-then-eq : goal.returns-then-eq
returns-then-eq c = grind (arith, number_answers)
