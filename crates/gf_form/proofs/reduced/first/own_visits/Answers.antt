use Rattle.gf_form.proofs.Common.{common_steps, arith}
use Rattle.gf_form.proofs.reduced.first.own_visits.Goals as goal

pub loop-position-preserved : goal.loop-position-preserved
loop-position-preserved c = grind (arith, common_steps)

pub loop-visit-preserved : goal.loop-visit-preserved
loop-visit-preserved c = grind (arith, common_steps)

pub returns : goal.returns
returns c = grind (arith, common_steps)
