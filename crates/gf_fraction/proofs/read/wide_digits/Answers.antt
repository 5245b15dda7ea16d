use Rattle.std.proofs.Common.{◌≡◌, ◌<◌, ◌∙◌, ◌+◌, ◌-◌, ◌*◌, ap, sym}
use Rattle.std.proofs.Common.{true, length, drop, get_or, arith}
use Rattle.std.specs.Char.{is_ascii_digit}
use Rattle.gf_fraction.specs.inner.NumberScan.{capped, leading_value}
use Rattle.gf_fraction.proofs.LeadingDigits.{leading_value-drop, unread-drop, capped-leading}
use Rattle.gf_fraction.proofs.read.wide_digits.Goals as goal
use Rattle.gf_fraction.proofs.read.wide_digits.Goals.{then-value, else-value}

pub loop-i-preserved : goal.loop-i-preserved
loop-i-preserved c =
    let text = c.args.text.now in
    let i = c.loop-i.i in
    let v = c.loop-i.value in
    let within : i < length text = omega arith in
    let digit : is_ascii_digit (get_or text i 0) ≡ true =
    sym c.if-not-is_ascii_digit.ensures.value in
    let next : c.if-value.value ≡ capped (v * 10 + (get_or text i 0 - 48)) =
    elim c.if-value.branch [ then-value w ↦ omega arith | else-value w ↦ omega arith ] in (
      c.loop-i.invariant.0
          ∙ ap capped (leading_value-drop text i within v digit)
          ∙ sym (capped-leading (v * 10 + (get_or text i 0 - 48)) (drop (i + 1) text))
          ∙ ap (λ k. capped (leading_value k (drop (i + 1) text))) (sym next),
      c.loop-i.invariant.1 ∙ unread-drop text i within digit,
      omega arith,
    )
