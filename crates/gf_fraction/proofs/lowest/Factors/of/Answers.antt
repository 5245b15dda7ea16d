use Rattle.std.proofs.Common.{arith}
use Rattle.gf_fraction.proofs.SmallFactors.{factors_of, odd_above}
use Rattle.gf_fraction.proofs.lowest.Factors.of.Goals as goal

pub counted-threes-requires-clause-some : goal.counted-threes-requires-clause-some
counted-threes-requires-clause-some c = grind (arith, odd_above)

pub returns : goal.returns
returns c = grind (arith, factors_of)
