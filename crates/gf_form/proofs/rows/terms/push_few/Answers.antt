use Rattle.gf_form.proofs.Common.{arith, common_steps}
use Rattle.gf_form.proofs.rows.terms.push_few.Goals as goal

pub loop-place-preserved : goal.loop-place-preserved
loop-place-preserved g c = grind (arith, common_steps)

pub returns : goal.returns
returns g c = grind (arith, common_steps)
