use Rattle.std.proofs.Common.{arith}
use Rattle.gf_fraction.proofs.Divisors.{IsLowest-zero}
use Rattle.gf_fraction.proofs.SmallFactors.{lowest_after}
use Rattle.gf_fraction.proofs.lowest.Factors.lowest.Goals as goal

pub returns-then-size-eq0 : goal.returns-then-size-eq0
returns-then-size-eq0 c = IsLowest-zero c.args.size c.args.den c.if-size-eq0.true

pub returns : goal.returns
returns c =
    grind (arith, lowest_after)
