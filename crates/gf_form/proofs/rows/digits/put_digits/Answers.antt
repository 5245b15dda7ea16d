use Rattle.gf_form.proofs.Common.{reverse-append, arith, drop, ◌++◌, ◌-◌}
use Rattle.gf_form.proofs.lemmas.rows.Digits.{width_left, cut}
use Rattle.gf_form.proofs.rows.digits.put_digits.Goals as goal

pub loop-place-preserved : goal.loop-place-preserved
loop-place-preserved c later are =
    grind (arith, cut, reverse-append, c.loop-place.invariant, c.in_ok-step.ensures)

pub returns-in_default : goal.returns-in_default
returns-in_default c later are =
    let place = c.loop-place.place in
    let put = c.in_ok-step.ensures (drop place c.args.actions.now ++ later)
    (c.loop-place.invariant later are).0 in
    let is = cut c.args.actions.now later place (omega arith) (omega arith) in
    let most = width_left (place - 1) c.args.actions.now later in
    grind (arith, put, is, most)
