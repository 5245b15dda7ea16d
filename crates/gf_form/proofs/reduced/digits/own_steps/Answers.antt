use Rattle.gf_form.proofs.Common.{append-nil, arith, []}
use Rattle.gf_form.proofs.lemmas.rows.Digits.{no_digits}
use Rattle.gf_form.proofs.lemmas.rows.GameDigits.{width_fits}
use Rattle.gf_form.proofs.reduced.digits.own_steps.Goals as goal

pub unwrap-steps-requires : goal.unwrap-steps-requires
unwrap-steps-requires c =
    let put = c.in_ok-put_digits.ensures [] (rw c.new-digits.ensures.items no_digits) in
    grind (arith, append-nil, width_fits, put)

pub returns : goal.returns
returns c =
    let put = c.in_ok-put_digits.ensures [] (rw c.new-digits.ensures.items no_digits) in
    grind (arith, append-nil, put)
