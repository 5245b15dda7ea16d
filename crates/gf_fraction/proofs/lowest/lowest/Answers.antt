use Rattle.std.proofs.Common.{arith}
use Rattle.std.proofs.Math.Nat.{pos_of_dvd_of_pos}
use Rattle.gf_fraction.proofs.Divisors.{IsLowest-div}
use Rattle.gf_fraction.proofs.lowest.lowest.Goals as goal

pub quotient-requires : goal.quotient-requires
quotient-requires c = pos_of_dvd_of_pos c.gcd-shared.ensures.1 c.requires.above_zero

pub quotient-requires-2 : goal.quotient-requires-2
quotient-requires-2 c = pos_of_dvd_of_pos c.gcd-shared.ensures.1 c.requires.above_zero

pub returns : goal.returns
returns c =
    grind (arith, IsLowest-div)
