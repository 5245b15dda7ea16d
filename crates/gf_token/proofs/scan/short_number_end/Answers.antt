use Rattle.std.proofs.Common.{ℕ, List, take, drop, arith, subst, sym}
use Rattle.std.proofs.lemmas.List.{take_rest}
use Rattle.gf_fraction.specs.ReadOn.{IsLeft, IsReadOn}
use Rattle.gf_token.specs.inner.Finding.{IsNotShort}
use Rattle.gf_token.proofs.ScannedNumbers.{whole_found, number_found}
use Rattle.gf_token.proofs.scan.short_number_end.Goals as goal

pub returns-then-is_over : goal.returns-then-is_over
returns-then-is_over c =
    let d = c.digits_end-at in
    whole_found c.args.input.now c.args.start c.from.result d.result.0 d.result.1 c.from.ensures
    c.requires.within d.ensures.ends d.ensures.value c.whole.result (omega arith)
    c.whole.ensures.value (c.is_over.ensures.over c.if-is_over.true)

pub returns-in_err-number : goal.returns-in_err-number
returns-in_err-number c =
    let d = c.digits_end-at in
    rw (c.from_residual.ensures, sym c.from.ensures)
    (IsNotShort.left d.result.0 d.ensures.ends
    (subst IsLeft (take_rest c.args.input.now d.result.0) c.in_err-number.ensures.end))

pub returns-then-is_over-2 : goal.returns-then-is_over-2
returns-then-is_over-2 c =
    let d = c.digits_end-at in
    number_found c.args.input.now c.args.start c.from.result d.result.0 d.result.1 c.from.ensures
    c.requires.within d.ensures.ends d.ensures.value c.in_ok-number.len c.in_ok-number.number
    c.in_ok-number.ensures.number c.in_ok-number.ensures.within
    (c.is_over-2.ensures.over c.if-is_over-2.true)

pub returns-else-is_over-2 : goal.returns-else-is_over-2
returns-else-is_over-2 c =
    let d = c.digits_end-at in
    let len = c.in_ok-number.len in
    let more = c.is_over-2.ensures.more c.if-is_over-2.false in
    rw (sym c.from.ensures)
    (IsNotShort.more d.result.0 len d.ensures.ends
    (subst (λ (t : List ℕ). IsReadOn (take len t) (drop len t))
    (take_rest c.args.input.now d.result.0) c.in_ok-number.ensures.end)
    more.0 more.1)
