use Rattle.std.proofs.Common.{arith, subst}
use Rattle.std.specs.Int.{IsGcd}
use Rattle.std.proofs.Math.Nat.{pos_of_dvd_of_pos}
use Rattle.gf_fraction.proofs.Divisors.{IsLowest-apart, IsLowest-div, IsLowest-same}
use Rattle.gf_fraction.proofs.lowest.without_shared.Goals as goal

pub returns-then-common-eq1 : goal.returns-then-common-eq1
returns-then-common-eq1 c = grind (arith, IsLowest-same)

pub returns-then-shared-eq1 : goal.returns-then-shared-eq1
returns-then-shared-eq1 c =
    IsLowest-apart c.args.size c.args.den c.args.common c.requires
    (subst (IsGcd c.args.size c.args.common) c.if-shared-eq1.true c.word_gcd-shared.ensures)

pub returns-else-shared-eq1 : goal.returns-else-shared-eq1
returns-else-shared-eq1 c = grind (arith, IsLowest-div)

pub nonzero_div-result : goal.nonzero_div-result
nonzero_div-result c = pos_of_dvd_of_pos c.word_gcd-shared.ensures.1 c.requires.above_zero

pub nonzero_div-result-else-shared-eq1 : goal.nonzero_div-result-else-shared-eq1
nonzero_div-result-else-shared-eq1 c = grind (arith, pos_of_dvd_of_pos)
