use Rattle.std.proofs.Common.{◌≡◌, ◌<◌, ◌+◌, length, take, drop, subst, sym, ap, ◌∙◌, arith}
use Rattle.std.proofs.lemmas.List.{length-append, length-drop, take-append-drop}
use Rattle.gf_fraction.specs.NumberSpelling.{IsNumber, IsSign}
use Rattle.gf_fraction.specs.inner.NumberScan.{AreRead, IsNotShort, after_sign}
use Rattle.gf_fraction.proofs.FoundIsSpelled.{has_sign}
use Rattle.gf_fraction.proofs.ShortNumbers.{parts_of}
use Rattle.gf_fraction.proofs.read.short.Goals as goal

pub returns-then-rest-unsigned : goal.returns-then-rest-unsigned
returns-then-rest-unsigned c =
    subst IsNotShort c.split_sign-negative.ensures.rest
    (IsNotShort.no_digits _ _ c.word_digits-num.ensures c.if-rest-unsigned.true)

pub returns-in_err-number : goal.returns-in_err-number
returns-in_err-number c =
    rw c.from_residual.ensures
    (subst IsNotShort c.split_sign-negative.ensures.rest
    (IsNotShort.left _ _ c.word_digits-num.ensures c.in_err-number.ensures.end))

pub returns-else-len-rest : goal.returns-else-len-rest
returns-else-len-rest c =
    let rest = c.word_digits-num.result.1.now in
    let len = c.in_ok-number.len in
    let more : 0 < length (drop len rest) = omega (
      arith,
      length-drop len rest,
      c.if-len-rest.false,
      c.in_ok-number.ensures.within,
    ) in
    subst IsNotShort c.split_sign-negative.ensures.rest
    (IsNotShort.more _ (take len rest) (drop len rest)
    (subst (AreRead 0 _ _) (sym (take-append-drop len rest)) c.word_digits-num.ensures)
    c.in_ok-number.ensures.end more)

pub returns-then-len-rest : goal.returns-then-len-rest
returns-then-len-rest c =
    let text = c.args.text.now in
    let sign = c.split_sign-negative in
    let n = c.word_digits-num.result.0 in
    let rest = c.word_digits-num.result.1.now in
    let d : AreRead 0 (after_sign text) n rest =
    subst (λ t. AreRead 0 t n rest) sign.ensures.rest c.word_digits-num.ensures in
    let long : length sign.result.1.now ≡ length d.digits + length rest =
    ap length (sign.ensures.rest ∙ d.spelled) ∙ length-append d.digits rest in
    let some : 0 < length d.digits = omega (arith, long, c.if-rest-unsigned.false) in
    let s = has_sign text in
    subst (λ t. IsNumber t c.in_ok-number.number)
    (parts_of text rest n c.in_ok-number.len d c.if-len-rest.true)
    (c.in_ok-number.ensures.number s.sign d.digits
    (subst (IsSign s.sign) (sym sign.ensures.negative) s.is_sign) (some, d.run.all) (sym d.is))
