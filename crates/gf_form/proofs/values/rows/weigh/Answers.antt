use Rattle.gf_form.proofs.Common.{times_of, plus_of, length, arith, Some, ◌≡◌}
use Rattle.gf_form.proofs.lemmas.values.ValuesComputed.{all_added, one_added, place_is}
use Rattle.gf_form.proofs.lemmas.values.ValuesComputed.{zeros_weighed}
use Rattle.gf_form.proofs.values.rows.weigh.Goals as goal

pub loop-i-preserved : goal.loop-i-preserved
loop-i-preserved c =
    one_added (λ s x. plus_of (Some s) (times_of c.args.chance (Some x))) _ _ _ c.loop-i.i _
    c.loop-i.invariant c.loop-i-test.true (grind (arith, place_is)) c.in-Some.ensures.fraction

pub returns-clause-added : goal.returns-clause-added
returns-clause-added c =
    let end : c.loop-i.i ≡ length c.args.row.now = omega (arith, c.loop-i-test.false) in
    all_added (λ s x. plus_of (Some s) (times_of c.args.chance (Some x))) _ _ _
    (rw end at c.loop-i.invariant)
    (zeros_weighed c.args.chance c.num.ensures.fraction)
