use Rattle.gf_token.proofs.ScannedIndices.{first_digits, more_digits, more_value, has_room, none}
use Rattle.std.proofs.Math.Nat.{pow-le-pow_right}
use Rattle.std.proofs.lemmas.Int.Digits.{digits_value-lt}
use Rattle.std.proofs.lemmas.List.{length-take-le, length-drop}
use Rattle.std.proofs.Common.{get_or, arith}
use Rattle.gf_fraction.proofs.Offered.{digit_from_ascii}
use Rattle.gf_token.proofs.scan.digits_before.Goals as goal

pub loop-at-init : goal.loop-at-init
loop-at-init c = grind (arith, first_digits, none, more_value)

pub overflow_mul-value : goal.overflow_mul-value
overflow_mul-value c = grind (arith, length-take-le, length-drop, digits_value-lt, pow-le-pow_right)

pub overflow_add-value : goal.overflow_add-value
overflow_add-value c =
    let i = c.loop-at.invariant in
    let room = has_room c.args.input.now c.args.first c.loop-at.at c.loop-at.value
    (omega (arith, i.begins)) (omega (arith, i.within, c.requires.within))
    (omega (arith, i.begins, c.requires.few, c.loop-at-test.true)) i.digits i.value in
    let small = digit_from_ascii (get_or c.args.input.now c.loop-at.at 0) c.in-Some.ensures.0 in
    omega (arith, room, small, c.in-Some.ensures.1)

pub loop-at-preserved : goal.loop-at-preserved
loop-at-preserved c =
    grind (arith, more_value, more_digits)
