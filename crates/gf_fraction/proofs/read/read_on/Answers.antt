use Rattle.std.proofs.Common.{arith}
use Rattle.gf_fraction.proofs.ShortNumbers.{completed_number}

pub returns-clause-number : Rattle.gf_fraction.proofs.read.read_on.Goals.returns-clause-number
returns-clause-number c = grind (arith, completed_number)
