use Rattle.gf_fraction.proofs.ComputedArithmetic.{product_or_overflow}

pub returns : Rattle.gf_fraction.proofs.laws.product_or_overflow.Goals.returns
returns c = product_or_overflow
