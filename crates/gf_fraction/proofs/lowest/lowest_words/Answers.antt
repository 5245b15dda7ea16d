use Rattle.std.proofs.Common.{arith}
use Rattle.gf_fraction.proofs.Divisors.{IsLowest-same, IsLowest-zero}
use Rattle.gf_fraction.proofs.SmallFactors.{twos_alone}
use Rattle.gf_fraction.proofs.lowest.lowest_words.Goals as goal

pub returns-then-common-eq1 : goal.returns-then-common-eq1
returns-then-common-eq1 c = IsLowest-same _ _ c.args.common c.requires c.if-common-eq1.true

pub returns-then-size-eq0 : goal.returns-then-size-eq0
returns-then-size-eq0 c = IsLowest-zero c.args.size c.args.den c.if-size-eq0.true

pub returns-then-common-twos-eq1 : goal.returns-then-common-twos-eq1
returns-then-common-twos-eq1 c = grind (arith, twos_alone)
