-- Short numbers: what is read of a text one part at a time spells a number.
use Rattle.std.proofs.Common.{Bool, ◌≡◌, ℕ, pos, ◌+◌, ◌-◌, ◌*◌, ◌^◌, ◌<◌, ◌≤◌, true, List, [], ◌∷◌}
use Rattle.std.proofs.Common.{◌++◌, length, get_or, take, drop, arith, lit<, refl, ap, sym, ◌∙◌}
use Rattle.std.proofs.Common.{subst, append_assoc, length-append}
use Rattle.std.specs.Char.{digit_value, is_ascii_digit}
use Rattle.std.specs.Str.Parse.{AllDigits, IsNumeral, digits_value, digits_value_after}
use Rattle.std.specs.Prelude.{◌-ℤ◌}
use Rattle.std.proofs.lemmas.Int.{ints}
use Rattle.std.proofs.lemmas.List.{append-nil, take_all, take_more}
use Rattle.std.proofs.Math.Seq.{take-append_seam}
use Rattle.gf_fraction.specs.Ratio.{Ratio, IsFraction, signed}
use Rattle.gf_fraction.specs.inner.Steps.{IsLowest}
use Rattle.gf_fraction.specs.NumberSpelling.{HasShape, IsNumber, IsSign, size_of, den_of}
use Rattle.gf_fraction.specs.NumberSpelling.{scaled_digits, power_of_ten, IsPlain}
use Rattle.gf_fraction.specs.NumberSpelling.Reading.{decimal, rational}
use Rattle.gf_fraction.specs.NumberSpelling.HasShape.{plain, fraction}
use Rattle.gf_fraction.specs.inner.NumberScan.{AreRead, Completes, after_sign}
use Rattle.gf_fraction.specs.ReadOn.{EndsDigits, IsLeft, IsReadOn}
use Rattle.gf_fraction.specs.inner.ShortNumber.{IsLeftByWords, IsReadInWords}
use Rattle.gf_fraction.specs.inner.ShortNumber.IsReadInWords.{whole}
use Rattle.gf_fraction.specs.inner.ShortNumber.IsLeftByWords.{no_denominator, many_places}
use Rattle.gf_fraction.proofs.Divisors.{IsGcd-one_right}
use Rattle.gf_fraction.proofs.FoundIsSpelled.{has_sign}
use Rattle.gf_fraction.proofs.LowestTerms.{value_from}
use Rattle.gf_fraction.proofs.PowersOfTen.{power_of_ten-above}
use Rattle.gf_fraction.proofs.SpelledIsFound.{AllDigits-append, digit_from_ascii}
use Rattle.gf_fraction.proofs.SpelledIsFound.{digits_value_after-append}

-- one more digit
module _ (text : List ℕ) (i : ℕ) (within : i < length text)
    (digit : is_ascii_digit (get_or text i 0) ≡ true) where
  abbrev byte : ℕ
  byte = get_or text i 0

  pub digits_more : AllDigits 10 (take i text) → AllDigits 10 (take (i + 1) text)
  digits_more all =
      subst (AllDigits 10) (sym (take_more text i 0 within))
      (AllDigits-append (take i text) (byte ∷ []) all (digit_from_ascii byte digit, tt))

  pub value_more : (n : ℕ) → digits_value_after 10 n (take (i + 1) text)
      ≡ digits_value_after 10 n (take i text) * 10 + digit_value byte
  value_more n =
      ap (digits_value_after 10 n) (take_more text i 0 within)
      ∙ digits_value_after-append n (take i text) (byte ∷ [])

-- ---- what completes a number

-- a text by its first byte
pub first_and_more : (text : List ℕ) (b : ℕ) → 1 ≤ length text → get_or text 0 0 ≡ b
    → text ≡ b ∷ take (length text - 1) (drop 1 text)
first_and_more text b some first = grind (arith, take_all)

pub whole_completes : (n : ℕ) (text : List ℕ) → n < 2 ^ 64 → EndsDigits text
    → Completes n text n 1 text
whole_completes n text short ends = record {
  more = [];
  reading = decimal n 0 (pos 0);
  spelled = refl;
  read_on = whole text ends;
  has_shape =
      λ digits numeral value. subst (λ (t : List ℕ × ℕ). HasShape t.0 (decimal t.1 0 (pos 0)))
      (λ i. (sym (append-nil digits) i, value i))
      (plain digits digits 0 (IsPlain.whole digits numeral));
  den_above_zero = lit< tt;
  bounded = record {
    digits_within = omega arith;
    places_within = omega arith;
    exponent_within = omega arith;
    power_within = omega (arith, ints);
    scaled_within = omega arith;
  };
  lowest = record { by = 1; num = omega arith; den = omega arith; apart = IsGcd-one_right n };
}

some_digits : (d : ℕ) (digits : List ℕ) → d ≡ digits_value_after 10 0 digits → 0 < d
    → 0 < length digits
some_digits d [] is above = absurd (omega (arith, is))
some_digits d (c ∷ cs) is above = omega arith

pub ratio_completes : (n d p q : ℕ) (text under rest : List ℕ) → n < 2 ^ 64 → d < 2 ^ 64
    → text ≡ 47 ∷ under → AreRead 0 under d rest → 0 < d → IsLowest n d p q
    → Completes n text p q rest
ratio_completes n d p q text under rest num_short den_short slash h above low = record {
  more = 47 ∷ h.digits;
  reading = rational n d;
  spelled = slash ∙ ap (λ t. 47 ∷ t) h.spelled;
  read_on = IsReadInWords.rational h.digits rest h.run (subst (λ k. 0 < k) h.is above);
  has_shape =
      λ digits numeral value. subst (λ (t : List ℕ × (ℕ × ℕ)). HasShape t.0 (rational t.1.0 t.1.1))
      (λ i. (append_assoc digits (47 ∷ []) h.digits i, (value i, sym h.is i)))
      (fraction digits h.digits numeral (some_digits d h.digits h.is above, h.run.all));
  den_above_zero = above;
  bounded = (omega arith, omega arith);
  lowest = low;
}

pub decimal_completes : (n v p q places : ℕ) (text after rest : List ℕ) → v < 2 ^ 64
    → text ≡ 46 ∷ after → AreRead n after v rest → places ≡ length after - length rest
    → places ≤ 19 → IsLowest v (10 ^ places) p q → Completes n text p q rest
decimal_completes n v p q places text after rest short point h count few low =
    let long : length after ≡ length h.digits + length rest =
    ap length h.spelled ∙ length-append h.digits rest in
    let same : places ≡ length h.digits = omega (arith, long) in
    let whole : (pos places -ℤ pos 0) ≡ pos places = omega (arith, ints) in
    record {
      more = 46 ∷ h.digits;
      reading = decimal v places (pos 0);
      spelled = point ∙ ap (λ t. 46 ∷ t) h.spelled;
      read_on = IsReadInWords.pointed h.digits rest h.run (omega (arith, same, few));
      has_shape =
          λ digits numeral value.
          let all : digits_value 10 (digits ++ h.digits) ≡ v = grind (arith, digits_value_after-append) in
          let numeral' : IsNumeral 10 (digits ++ h.digits) = (
            omega (arith, numeral.0, length-append digits h.digits),
            AllDigits-append digits h.digits numeral.1 h.run.all,
          ) in
          subst (λ (t : List ℕ × (ℕ × ℕ)). HasShape t.0 (decimal t.1.0 t.1.1 (pos 0)))
          (λ i. (append_assoc digits (46 ∷ []) h.digits i, (all i, sym same i)))
          (plain _ _ _ (IsPlain.pointed digits h.digits numeral'));
      den_above_zero = power_of_ten-above (pos places -ℤ pos 0);
      bounded = record {
        digits_within = omega arith;
        places_within = omega arith;
        exponent_within = omega arith;
        power_within = omega (arith, ints);
        scaled_within = grind arith;
      };
      lowest = subst (λ z. IsLowest (scaled_digits v z) (power_of_ten z) p q) (sym whole) low;
    }

-- ---- what is left

pub ratio_left : (n d : ℕ) (text under rest : List ℕ) → text ≡ 47 ∷ under → AreRead 0 under d rest
    → d ≡ 0 → IsLeftByWords n text
ratio_left n d text under rest slash h zero =
    subst (IsLeftByWords n) (sym (slash ∙ ap (λ t. 47 ∷ t) h.spelled))
    (no_denominator h.digits rest h.run (sym h.is ∙ zero))

pub decimal_left : (n v places : ℕ) (text after rest : List ℕ) → text ≡ 46 ∷ after
    → AreRead n after v rest → places ≡ length after - length rest → 19 < places
    → IsLeftByWords n text
decimal_left n v places text after rest point h count many =
    let long : length after ≡ length h.digits + length rest =
    ap length h.spelled ∙ length-append h.digits rest in
    subst (IsLeftByWords n) (sym (point ∙ ap (λ t. 46 ∷ t) h.spelled))
    (many_places h.digits rest h.run (omega (arith, long, count, many)))

-- ---- how far it is read on, whatever room there is

pub read_on : (n : ℕ) (more rest : List ℕ) → IsReadInWords n more rest → IsReadOn more rest
read_on n _ _ (IsReadInWords.whole rest ends) = IsReadOn.whole rest ends
read_on n _ _ (IsReadInWords.rational den rest run above) =
    IsReadOn.rational den rest run.all above
read_on n _ _ (IsReadInWords.pointed after rest run few) =
    IsReadOn.pointed after rest run.all

pub left : (n : ℕ) (text : List ℕ) → IsLeftByWords n text → IsLeft text
left n _ (no_denominator den rest run zero) =
    IsLeft.no_denominator den rest run.all zero (grind (arith, digit_from_ascii))
left n _ (many_places after rest run many) =
    IsLeft.many_places after rest run.all (omega (arith, many))

-- ---- the number

pub completed_number : (sign digits text rest : List ℕ) (negative : Bool) (n p q len : ℕ)
    (r : Ratio) → IsSign sign negative → IsNumeral 10 digits → digits_value 10 digits ≡ n
    → Completes n text p q rest → len ≡ length text - length rest → IsFraction r
    → r ≡ record { num = signed negative p; den = q } → IsNumber (sign ++ digits ++ take len text) r
completed_number sign digits text rest negative n p q len r is_sign numeral value c count is_fraction
    is =
    grind (
      arith,
      length-append c.more rest,
      take-append_seam c.more rest,
      append_assoc sign digits c.more,
      fraction,
      signed negative (size_of c.reading),
      value_from negative (size_of c.reading) (den_of c.reading) p q c.lowest,
    )

-- a sign, digits and what follows them are the whole text
pub parts_of : (text rest : List ℕ) (n len : ℕ) (d : AreRead 0 (after_sign text) n rest)
    → len ≡ length rest → (has_sign text).sign ++ d.digits ++ take len rest ≡ text
parts_of text rest n len d all = grind (arith, has_sign, take_all, append_assoc)
