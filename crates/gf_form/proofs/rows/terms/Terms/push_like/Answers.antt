use Rattle.gf_form.proofs.Common.{arith, get_or_default, get_or_past}
use Rattle.gf_form.proofs.rows.terms.Terms.push_like.Goals.{then-place-len+in_ok-note}
use Rattle.gf_form.proofs.rows.terms.Terms.push_like.Goals.{else-place-len}
use Rattle.gf_form.proofs.rows.terms.Terms.push_like.Goals as goal

pub returns-clause-noted : goal.returns-clause-noted
returns-clause-noted c = elim c.if-place-len.branch [
  | then-place-len+in_ok-note w ↦ grind (arith, get_or_default)
  | else-place-len w ↦ grind (arith, get_or_past)
]
