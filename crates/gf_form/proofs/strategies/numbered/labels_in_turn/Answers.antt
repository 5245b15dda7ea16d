use Rattle.gf_form.proofs.Common.{arith}
use Rattle.gf_form.proofs.lemmas.strategies.StrategiesByNumber.{label_steps}
use Rattle.gf_form.proofs.strategies.numbered.labels_in_turn.Goals as goal

pub write_label-requires : goal.write_label-requires
write_label-requires c = grind (arith, label_steps)

pub loop-number-preserved : goal.loop-number-preserved
loop-number-preserved c = grind (arith, label_steps)

pub returns : goal.returns
returns c = grind (arith, label_steps)
