use Rattle.gf_form.proofs.Common.{get_or_default, arith}
use Rattle.gf_form.proofs.rows.terms.Terms.push.Goals as goal

pub overflow_sub-index : goal.overflow_sub-index
overflow_sub-index c = grind (arith, get_or_default)

pub returns-clause-pushed : goal.returns-clause-pushed
returns-clause-pushed c = grind (arith, get_or_default)
