use Rattle.gf_form.proofs.Common.{arith, numbers_joined}
use Rattle.gf_form.proofs.strategies.profile_numbers.numbers_below.Goals as goal

pub loop-number-preserved : goal.loop-number-preserved
loop-number-preserved c = grind (arith, numbers_joined 0 c.loop-number.number 1)
