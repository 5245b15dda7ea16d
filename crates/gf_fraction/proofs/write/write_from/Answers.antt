use Rattle.std.proofs.Common.{arith}
use Rattle.gf_fraction.proofs.WrittenText.{digits_from}

pub returns-clause-written : Rattle.gf_fraction.proofs.write.write_from.Goals.returns-clause-written
returns-clause-written c = grind (arith, digits_from)
