use Rattle.std.proofs.Common.{arith}
use Rattle.gf_fraction.proofs.SmallFactors.{one_more}

pub loop-left-preserved : Rattle.gf_fraction.proofs.lowest.counted.Goals.loop-left-preserved
loop-left-preserved c = grind (arith, one_more)
