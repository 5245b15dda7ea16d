use Rattle.gf_form.proofs.Common.{plus_of, Some}
use Rattle.gf_form.proofs.lemmas.values.ValuesComputed.{Added}
use Rattle.gf_form.proofs.values.rows.pay.Given as goal

abbrev pub invariant-loop-i : goal.invariant-loop-i
invariant-loop-i l = Added (λ s x. plus_of (Some x) (Some s)) l.fn.row.items l.row.items l.payoffs
    l.i
