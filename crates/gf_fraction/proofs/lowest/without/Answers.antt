use Rattle.gf_fraction.proofs.Divisors.{IsGcd-one_right}
use Rattle.gf_fraction.proofs.SmallFactors.{held_apart}
use Rattle.std.proofs.Math.Nat.{pow-zero}
use Rattle.std.proofs.Common.{arith}
use Rattle.gf_fraction.proofs.SmallFactors.{divided, no_more}
use Rattle.gf_fraction.proofs.lowest.without.Goals as goal

pub loop-left-preserved : goal.loop-left-preserved
loop-left-preserved c = grind (arith, divided)

pub returns-else-size-prime-eq0 : goal.returns-else-size-prime-eq0
returns-else-size-prime-eq0 c = grind (arith, no_more)

pub returns-after-loop-left : goal.returns-after-loop-left
returns-after-loop-left c = grind (arith, pow-zero, held_apart, IsGcd-one_right)
