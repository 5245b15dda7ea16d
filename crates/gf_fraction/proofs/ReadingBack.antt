-- A text has one answer, and what is written for a fraction reads back to it.
use Rattle.std.proofs.Common.{append_assoc, Result, negsuc, arith, false, subst, Bool, List, refl}
use Rattle.std.proofs.Common.{true, ◌++◌, pos, suc, sym, ◌<◌, ◌^◌, ◌∙◌, ◌∷◌, ◌≡◌, ◌≤◌, [], ap, ℕ, ℤ}
use Rattle.std.specs.Prelude.{decimal as digits, unsigned_abs, ◌*ℤ◌}
use Rattle.std.specs.Fmt.{signed_decimal}
use Rattle.std.specs.Str.Parse.{digits_value, IsNumeral}
use Rattle.std.proofs.lemmas.Int.{ints}
use Rattle.std.proofs.lemmas.Bool.{eqb-true}
use Rattle.std.proofs.lemmas.Fmt.{decimal_is_IsNumeral_wide}
use Rattle.gf_fraction.specs.Ratio.{IsFraction, HasValue, signed, Ratio}
use Rattle.gf_fraction.specs.NumberSpelling.{SpellsReading, IsBounded, IsNumber, Reading, size_of}
use Rattle.gf_fraction.specs.NumberSpelling.{IsSign, den_of}
use Rattle.gf_fraction.specs.NoNumber.{HasNumberFault, Reads}
use Rattle.gf_fraction.specs.NumberSpelling.Reading.{rational, decimal}
use Rattle.gf_fraction.specs.NumberSpelling.IsSign.{absent, minus}
use Rattle.gf_fraction.specs.NumberSpelling.IsPlain.{whole}
use Rattle.gf_fraction.specs.NumberSpelling.HasShape.{fraction, plain}
use Rattle.gf_fraction.specs.NumberText.{number_text}
use Rattle.gf_fraction.specs.inner.NumberScan.{reading_of}
use Rattle.gf_fraction.specs.declared.fraction.NumberFault.{NumberFault}
use Rattle.gf_fraction.specs.declared.fraction.NumberFault.TheVariants.{ZeroDenominator, NotANumber}
use Rattle.gf_fraction.specs.declared.fraction.NumberFault.TheVariants.{TooLarge}
use Rattle.gf_fraction.proofs.LowestTerms.{one_fraction}
use Rattle.gf_fraction.proofs.SpelledIsFound.{held}
use Rattle.gf_fraction.proofs.AnswersFromScans.{bounded_kept, scan_spelled, zero_held, zero_kept}

-- two readings of one text agree but for what is too large
module _ (text : List ℕ) (m n : Bool) (x y : Reading) (hx : SpellsReading text m x)
    (hy : SpellsReading text n y) where
  same_held : held x ≡ held y
  same_held = let a = (scan_spelled text m x hx).1 in let b = (scan_spelled text n y hy).1 in cc

  same_sign : m ≡ n
  same_sign = sym (scan_spelled text m x hx).0 ∙ (scan_spelled text n y hy).0

  same_bounded : IsBounded x → IsBounded y → x ≡ y
  same_bounded bx by = sym (bounded_kept x bx) ∙ ap reading_of same_held ∙ bounded_kept y by

  bounded_too : IsBounded x → IsBounded y
  bounded_too bx = grind (arith, held, same_held, bounded_kept)

  zero_too : den_of x ≡ 0 → den_of y ≡ 0
  zero_too z = zero_held y (ap (λ k. den_of (reading_of k)) (sym same_held) ∙ zero_kept x z)

same_number : (text : List ℕ) (r s : Ratio) → IsNumber text r → IsNumber text s → r ≡ s
same_number text r s a b =
    let e = same_bounded text a.negative b.negative a.reading b.reading a.spelled b.spelled
    a.bounded b.bounded in
    let sign = same_sign text a.negative b.negative a.reading b.reading a.spelled b.spelled in
    let F : (Bool × Reading) → Type 0 = λ t. HasValue s (signed t.0 (size_of t.1)) (den_of t.1) in
    one_fraction r s (signed a.negative (size_of a.reading)) (den_of a.reading) a.fraction
    b.fraction a.den_above_zero a.value (subst F (λ i. (sym sign i, sym e i)) b.value)

not_both : (text : List ℕ) (r : Ratio) (fault : NumberFault)
    → IsNumber text r → HasNumberFault text fault → ⊥
not_both text r NotANumber a h = h a.negative a.reading a.spelled
not_both text r ZeroDenominator a h =
    let z = zero_too text h.negative a.negative h.reading a.reading h.spelled a.spelled h.zero in
    let above = a.den_above_zero in omega (arith, z, above)
not_both text r TooLarge a h = h.unbounded
    (bounded_too text a.negative h.negative a.reading h.reading a.spelled h.spelled a.bounded)

pub same_fault : (text : List ℕ) (f g : NumberFault) → HasNumberFault text f → HasNumberFault text g
    → f ≡ g
same_fault text NotANumber ZeroDenominator a b = absurd (a b.negative b.reading b.spelled)
same_fault text NotANumber TooLarge a b = absurd (a b.negative b.reading b.spelled)
same_fault text ZeroDenominator NotANumber a b = absurd (b a.negative a.reading a.spelled)
same_fault text ZeroDenominator TooLarge a b =
    let z = zero_too text a.negative b.negative a.reading b.reading a.spelled b.spelled a.zero in
    let above = b.den_above_zero in
    absurd (omega (arith, z, above))
same_fault text TooLarge NotANumber a b = absurd (b a.negative a.reading a.spelled)
same_fault text TooLarge ZeroDenominator a b =
    let z = zero_too text b.negative a.negative b.reading a.reading b.spelled a.spelled b.zero in
    let above = a.den_above_zero in
    absurd (omega (arith, z, above))
same_fault text f g a b = refl

pub one_answer : (text : List ℕ) (a b : Result Ratio NumberFault) → Reads text a → Reads text b
    → a ≡ b
one_answer text a b a' b' = grind (arith, same_number, not_both, same_fault)

-- the text of an integer
record IsWritten (z : ℤ) : Type 0 where
  pub sign : List ℕ
  pub negative : Bool
  pub size : ℕ
  pub is_sign : IsSign sign negative
  pub spelled : signed_decimal z ≡ sign ++ digits size
  pub value : z ≡ signed negative size
  pub size_is : size ≡ unsigned_abs z

is_written : (z : ℤ) → IsWritten z
is_written (pos n) = record {
  sign = [];
  negative = false;
  size = n;
  is_sign = absent;
  spelled = refl;
  value = refl;
  size_is = refl;
}
is_written (negsuc n) = record {
  sign = 45 ∷ [];
  negative = true;
  size = suc n;
  is_sign = minus;
  spelled = refl;
  value = refl;
  size_is = refl;
}

numeral : (n : ℕ) → n < 2 ^ 127 → IsNumeral 10 (digits n) × (digits_value 10 (digits n) ≡ n)
numeral n h =
    decimal_is_IsNumeral_wide n (let wide : 2 ^ 127 ≤ 10 ^ 64 = omega arith in omega (arith, wide))

whole_is_read : (r : Ratio) → IsFraction r → r.den ≡ 1 → IsNumber (signed_decimal r.num) r
whole_is_read r h one =
    let w = is_written r.num in
    let within : w.size < 2 ^ 127 = subst (λ n. n < 2 ^ 127) (sym w.size_is) h.num_within in
    let d = numeral w.size within in
    let v = digits_value 10 (digits w.size) in
    let small : v < 2 ^ 127 = subst (λ n. n < 2 ^ 127) (sym d.1) within in
    record {
      negative = w.negative;
      reading = decimal v 0 (pos 0);
      spelled = record {
        sign = w.sign;
        rest = digits w.size;
        spelled = w.spelled;
        is_sign = w.is_sign;
        has_shape = plain (digits w.size) (digits w.size) 0 (whole (digits w.size) d.0);
      };
      den_above_zero = omega arith;
      bounded = record {
        digits_within = small;
        places_within = omega arith;
        exponent_within = omega arith;
        power_within = omega (arith, ints);
        scaled_within = small;
      };
      fraction = h;
      value = (λ i. w.value i *ℤ pos 1) ∙ (λ i. signed w.negative (sym d.1 i) *ℤ pos (sym one i));
    }

fraction_is_read : (r : Ratio) → IsFraction r
    → IsNumber (signed_decimal r.num ++ (47 ∷ []) ++ digits r.den) r
fraction_is_read r h =
    let w = is_written r.num in
    let within : w.size < 2 ^ 127 = subst (λ n. n < 2 ^ 127) (sym w.size_is) h.num_within in
    let n = numeral w.size within in
    let d = numeral r.den h.den_within in
    let v = digits_value 10 (digits w.size) in
    let u = digits_value 10 (digits r.den) in
    let spelled : signed_decimal r.num ++ (47 ∷ []) ++ digits r.den
    ≡ w.sign ++ (digits w.size ++ (47 ∷ []) ++ digits r.den) = grind (arith, append_assoc) in
    record {
      negative = w.negative;
      reading = rational v u;
      spelled = record {
        sign = w.sign;
        rest = digits w.size ++ (47 ∷ []) ++ digits r.den;
        spelled = spelled;
        is_sign = w.is_sign;
        has_shape = fraction (digits w.size) (digits r.den) n.0 d.0;
      };
      den_above_zero = subst (λ k. 0 < k) (sym d.1) h.den_above_zero;
      bounded = grind arith;
      fraction = h;
      value = (λ i. w.value i *ℤ pos (d.1 i)) ∙ (λ i. signed w.negative (sym n.1 i) *ℤ pos r.den);
    }

pub written_is_read : (r : Ratio) → IsFraction r → IsNumber (number_text r) r
unfolding number_text
written_is_read r h = grind (arith, whole_is_read, eqb-true, fraction_is_read)

pub one_text : (r s : Ratio) → IsFraction r → IsFraction s → number_text r ≡ number_text s → r ≡ s
one_text r s hr hs e = same_number (number_text s) r s
    (subst (λ t. IsNumber t r) e (written_is_read r hr)) (written_is_read s hs)
