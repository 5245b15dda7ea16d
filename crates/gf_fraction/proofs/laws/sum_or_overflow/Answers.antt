use Rattle.gf_fraction.proofs.ComputedArithmetic.{sum_or_overflow}

pub returns : Rattle.gf_fraction.proofs.laws.sum_or_overflow.Goals.returns
returns c = sum_or_overflow
