use Rattle.std.proofs.Common.{arith}
use Rattle.gf_fraction.proofs.SmallFactors.{divided_twos}

pub returns : Rattle.gf_fraction.proofs.lowest.without_twos.Goals.returns
returns c = grind (arith, divided_twos)
