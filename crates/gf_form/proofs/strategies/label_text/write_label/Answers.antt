use Rattle.gf_form.proofs.Common.{arith}
use Rattle.gf_form.proofs.lemmas.strategies.StrategiesByNumber.{text_steps}
use Rattle.gf_form.proofs.strategies.label_text.write_label.Goals as goal

pub loop-place-preserved : goal.loop-place-preserved
loop-place-preserved c = grind (arith, text_steps)

pub returns-clause-text : goal.returns-clause-text
returns-clause-text c = grind (arith, text_steps)

pub returns-clause-label : goal.returns-clause-label
returns-clause-label c = grind (arith, text_steps)
