use Rattle.gf_form.proofs.Common.{common_steps, arith}
use Rattle.gf_form.proofs.lemmas.strategies.PickedProfiles.{sum_steps}
use Rattle.gf_form.proofs.strategies.profile_numbers.with_player.Goals as goal

pub overflow_mul-count : goal.overflow_mul-count
overflow_mul-count c = grind (arith, common_steps)

pub push_sums-requires : goal.push_sums-requires
push_sums-requires c = grind (arith, sum_steps)

pub loop-rest-preserved : goal.loop-rest-preserved
loop-rest-preserved c = grind (arith, common_steps)

pub returns : goal.returns
returns c = grind (arith, common_steps)
