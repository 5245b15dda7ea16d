use Rattle.gf_form.proofs.Common.{reverse-append, reverse, arith}
use Rattle.gf_form.proofs.lemmas.rows.Digits.{stride_more}
use Rattle.gf_form.proofs.rows.digits.strides.Goals as goal

pub loop-place-preserved : goal.loop-place-preserved
loop-place-preserved c later is positive few =
    let more = stride_more c.args.actions.now later (reverse c.loop-place.strides.items)
    c.loop-place.place c.loop-place.choices (omega arith) (omega arith) positive few
    (c.loop-place.invariant later is positive few) in
    grind (arith, reverse-append, more)
