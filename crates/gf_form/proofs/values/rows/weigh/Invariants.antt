use Rattle.gf_form.proofs.Common.{times_of, plus_of, Some}
use Rattle.gf_form.proofs.lemmas.values.ValuesComputed.{Added}
use Rattle.gf_form.proofs.values.rows.weigh.Given as goal

abbrev pub invariant-loop-i : goal.invariant-loop-i
invariant-loop-i l = Added (λ s x. plus_of (Some s) (times_of l.fn.chance (Some x))) l.fn.sum.items
    l.sum.items l.row l.i
