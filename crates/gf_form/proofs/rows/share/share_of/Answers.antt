use Rattle.gf_form.proofs.Common.{fits_signed_from_abs, unsigned_abs-mul, unsigned_abs, mul_assoc, mul_comm}
use Rattle.gf_form.proofs.Common.{to_z-of_z, *ℤ_assoc, *ℤ_comm, IsFactor, *ℤ-zero, IsShare, one-dvd, term_of}
use Rattle.gf_form.proofs.Common.{zero-*ℤ, ne_eqb, Ratio, Share, arith, subst, Path, ints, refl, ap, ℤ}
use Rattle.gf_form.proofs.Common.{◌*ℤ◌, pos, ◌*◌, ◌∙◌, ◌≡◌, ℕ}
use Rattle.gf_form.proofs.rows.share.share_of.Goals as goal

-- nothing is added to a payoff of zero
zero_share : (path : Path) (pay : Ratio) (den : ℕ) (s : Share) → pay.num ≡ pos 0
    → s.amount ≡ pos 0 → s.bound ≡ 0 → IsShare (term_of path pay) den s
zero_share path pay den s nothing amount_is bound_is =
    rw nothing (grind (arith, one-dvd, *ℤ-zero, zero-*ℤ))

own_share : (path : Path) (pay : Ratio) (den factor : ℕ) (over : ℤ) (s : Share)
    → ¬ (unsigned_abs pay.num ≡ 0) → IsFactor (path.den * pay.den) den factor
    → over ≡ pay.num *ℤ pos factor → s.amount ≡ over *ℤ pos path.weight
    → s.bound ≡ unsigned_abs over * path.bound → IsShare (term_of path pay) den s
own_share path pay den factor over s some is over_is amount_is bound_is =
    rw (ne_eqb (unsigned_abs pay.num) 0 some) (record {
      exact = λ _. (is.above, is.divides);
      amount_is = cc (
        *ℤ_comm over (pos path.weight),
        *ℤ_assoc (pos path.weight) pay.num (pos factor),
        is.factor_is,
      );
      bound_is = cc (
        mul_comm (unsigned_abs over) path.bound,
        unsigned_abs-mul pay.num (pos factor),
        mul_assoc path.bound (unsigned_abs pay.num) factor,
        is.factor_is,
      );
    })

pub returns-then-num-eq0-clause-share : goal.returns-then-num-eq0-clause-share
returns-then-num-eq0-clause-share c =
    let nothing : c.args.payoff.num ≡ pos 0 =
    grind (arith, to_z-of_z, fits_signed_from_abs, c.num.ensures) in
    zero_share c.args.path _ _ _ nothing refl refl

pub returns-clause-share : goal.returns-clause-share
returns-clause-share c =
    own_share c.args.path _ c.args.den c.in_ok-factor.field-0 c.in_ok-over.over _
    (λ none. c.if-num-eq0.false (grind (arith, ints, c.num.ensures)))
    (subst (λ (n : ℕ). IsFactor n c.args.den c.in_ok-factor.field-0)
    (c.in_ok-own.ensures.1 ∙ ap (λ (n : ℕ). c.args.path.den * n) c.den.ensures.value)
    c.in_ok-factor.ensures)
    (grind (arith, to_z-of_z, fits_signed_from_abs, c.in_ok-over.ensures, c.num.ensures, c.num-2.ensures))
    (grind (arith, to_z-of_z, fits_signed_from_abs, c.in_ok-multiplied.ensures))
    (grind (arith, c.in_ok-times.ensures, c.unsigned_abs.ensures))
