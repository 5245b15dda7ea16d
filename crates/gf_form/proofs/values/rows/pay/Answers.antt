use Rattle.gf_form.proofs.Common.{zero_ratio, plus_of, length, arith, Some, ◌≡◌}
use Rattle.gf_form.proofs.lemmas.values.ValuesComputed.{all_added, one_added, place_is}
use Rattle.gf_form.proofs.lemmas.values.ValuesComputed.{zero_fraction, plus_zero}
use Rattle.gf_form.proofs.values.rows.pay.Goals as goal

pub loop-i-preserved : goal.loop-i-preserved
loop-i-preserved c =
    one_added (λ s x. plus_of (Some x) (Some s)) _ _ _ c.loop-i.i _ c.loop-i.invariant
    c.loop-i-test.true (grind (arith, place_is)) c.in-Some.ensures.fraction

pub returns-clause-added : goal.returns-clause-added
returns-clause-added c =
    let end : c.loop-i.i ≡ length c.args.payoffs.now = omega (arith, c.loop-i-test.false) in
    all_added (λ s x. plus_of (Some x) (Some s)) _ _ _ (rw end at c.loop-i.invariant)
    (plus_zero zero_ratio zero_fraction)
