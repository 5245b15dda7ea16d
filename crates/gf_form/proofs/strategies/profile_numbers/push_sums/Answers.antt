use Rattle.gf_form.proofs.Common.{arith, common_steps}
use Rattle.gf_form.proofs.strategies.profile_numbers.push_sums.Goals as goal

pub loop-number-preserved : goal.loop-number-preserved
loop-number-preserved c = grind (arith, common_steps)
