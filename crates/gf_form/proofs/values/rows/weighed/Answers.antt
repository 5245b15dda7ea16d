use Rattle.gf_form.proofs.Common.{arith}
use Rattle.gf_form.proofs.lemmas.values.ValuesComputed.{weighed_steps}
use Rattle.gf_form.proofs.values.rows.weighed.Goals as goal

pub returns-then-num-eq0-clause-is : goal.returns-then-num-eq0-clause-is
returns-then-num-eq0-clause-is c = grind (arith, weighed_steps)

pub returns-in_default-clause-is : goal.returns-in_default-clause-is
returns-in_default-clause-is c = grind (arith, weighed_steps)

pub returns-then-num-eq0-2-clause-is : goal.returns-then-num-eq0-2-clause-is
returns-then-num-eq0-2-clause-is c = grind (arith, weighed_steps)

pub returns-clause-is : goal.returns-clause-is
returns-clause-is c = grind (arith, weighed_steps)
