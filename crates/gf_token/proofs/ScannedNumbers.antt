-- A number that is read in one pass, from a sign and digits on, is a bare token, if no further byte
-- of one follows it.
use Rattle.std.proofs.Common.{◌∷◌, ◌++◌, ◌≡◌, ℕ, suc, ◌+◌, ◌-◌, ◌<◌, ◌≤◌, ◌^◌, ◌==◌, Bool, true}
use Rattle.std.proofs.Common.{false, inl, inr}
use Rattle.std.proofs.Common.{List, length, take, drop, get_or, refl, sym, ap, subst, ◌∙◌, arith}
use Rattle.std.specs.Prelude.{slice_range}
use Rattle.std.specs.Int.{from_bool}
use Rattle.std.specs.Str.Parse.{AllDigits, IsNumeral, digits_value}
use Rattle.std.proofs.Math.Seq.{take-add}
use Rattle.std.proofs.lemmas.Bool.{cases_lt}
use Rattle.std.proofs.lemmas.Bool.Decides.{nat_tests}
use Rattle.std.proofs.lemmas.List.{at_drop_more, at_drop_all, drop-drop}
use Rattle.std.proofs.lemmas.List.{length-drop, length-take-le, take_rest}
use Rattle.std.proofs.lemmas.List.Folds.{drop_split}
use Rattle.gf_fraction.specs.Ratio.{Ratio, signed, whole}
use Rattle.gf_fraction.specs.NumberSpelling.{IsNumber, IsSign}
use Rattle.gf_fraction.proofs.Offered.{digits_spelled as whole_spelled, is_sign_of, sign_of}
use Rattle.gf_token.specs.Byte.{is_bare}
use Rattle.gf_token.specs.Token.{lexeme}
use Rattle.gf_token.specs.Token.Token.{Bare}
use Rattle.gf_token.specs.TokenSpelling.{IsSpelled, MayPrecede}
use Rattle.gf_token.specs.inner.Finding.{EndsDigits, FindsNumber, lexed}
use Rattle.gf_token.specs.inner.Lexing.{lex}
use Rattle.gf_token.specs.inner.Lexing.Mode.{Gap}
use Rattle.gf_token.proofs.Spelled.{token_again}
use Rattle.gf_token.proofs.ScannedIndices.{scanned}
use Rattle.gf_token.proofs.SpelledNumbers.{digits_spelled, number_bare}

precedes : (bytes text : List ℕ) (at : ℕ)
    → (at < length bytes → is_bare (get_or bytes at 0) ≡ false)
    → MayPrecede (Bare text) (drop at bytes)
precedes bytes text at h =
    elim (cases_lt at (length bytes)) [
      | inl within ↦ subst (MayPrecede (Bare text))
          (sym (at_drop_more (λ t. t) bytes at 0 within)) (h within)
      | inr over ↦ subst (MayPrecede (Bare text)) (sym (at_drop_all (λ t. t) bytes at over)) tt
    ]

some_bytes : (text : List ℕ) → IsSpelled (Bare text) → 0 < length text
some_bytes text h = grind arith

pub length_range : (bytes : List ℕ) (start end : ℕ) → end ≤ length bytes
    → length (slice_range bytes start end) ≡ end - start
length_range bytes start end within = grind (arith, length-take-le, length-drop)

-- what follows bytes
slice_more : (bytes : List ℕ) (start at len : ℕ) → start ≤ at
    → slice_range bytes start (at + len) ≡ slice_range bytes start at ++ take len (drop at bytes)
slice_more bytes start at len order =
    grind (arith, take-add (at - start) len (drop start bytes), drop-drop (at - start) start bytes)

-- bytes that spell a bare token are one, if no further byte of one follows them
pub finds_bare : (bytes : List ℕ) (start end : ℕ) → IsSpelled (Bare (slice_range bytes start end))
    → start ≤ end → end ≤ length bytes → (end < length bytes → is_bare (get_or bytes end 0) ≡ false)
    → lexed bytes start ≡ lexeme start end (Bare (slice_range bytes start end)) ∷ lexed bytes end
finds_bare bytes start end bare order within ends =
    let text = slice_range bytes start end in
    let long = length_range bytes start end within in
    let stop : start + length text ≡ end = omega (arith, long) in
    ap (lex Gap start) (drop_split bytes start end order)
    ∙ token_again (Bare text) start (drop end bytes) (lexed bytes end) bare
    (precedes bytes text end ends) (ap (λ i. lex Gap i (drop end bytes)) stop)
    ∙ ap (λ i. lexeme start i (Bare text) ∷ lexed bytes end) stop

pub finds_number : (bytes : List ℕ) (start end : ℕ) (r : Ratio)
    → IsNumber (slice_range bytes start end) r → start ≤ end → end ≤ length bytes
    → (end < length bytes → is_bare (get_or bytes end 0) ≡ false) → FindsNumber bytes start end r
finds_number bytes start end r number order within ends =
    grind (
      arith,
      length_range bytes start end within,
      some_bytes (slice_range bytes start end) (number_bare (slice_range bytes start end) r number),
      finds_bare bytes start end (number_bare (slice_range bytes start end) r number)
          order within ends,
    )

pub digits_found : (bytes : List ℕ) (start at : ℕ) → start < at → at ≤ length bytes
    → AllDigits 10 (slice_range bytes start at)
    → (at < length bytes → is_bare (get_or bytes at 0) ≡ false)
    → lexed bytes start ≡ lexeme start at (Bare (slice_range bytes start at)) ∷ lexed bytes at
digits_found bytes start at some within digits ends =
    grind (arith, length_range, finds_bare, digits_spelled)

-- the bytes of a sign, or none, and those after it
signed_slice : (bytes : List ℕ) (start sign at : ℕ) (negative : Bool) → sign ≡ from_bool negative
    → start < length bytes → (get_or bytes start 0 == 45) ≡ negative → start + sign < at
    → slice_range bytes start at ≡ sign_of negative ++ slice_range bytes (start + sign) at
signed_slice bytes start sign at false none within is some = grind arith
signed_slice bytes start sign at true one within is some =
    let next : start + 1 ≡ start + sign = (let n : sign ≡ 1 = one in omega (arith, n)) in
    let more : at - start ≡ suc (at - (start + 1)) = omega (arith, next) in
    at_drop_more (take (at - start)) bytes start 0 within
    ∙ ap (λ (n : ℕ). take n (get_or bytes start 0 ∷ drop (start + 1) bytes)) more
    ∙ ap (λ (b : ℕ). b ∷ slice_range bytes (start + 1) at) (grind (arith, nat_tests))
    ∙ ap (λ (n : ℕ). 45 ∷ slice_range bytes n at) next

-- a sign, or none, and the first digits after it
module _ (bytes : List ℕ) (start sign at value : ℕ)
    (signs : sign ≡ from_bool (get_or bytes start 0 == 45)) (some : start < length bytes)
    (d : EndsDigits bytes (start + sign) at)
    (valued : value ≡ digits_value 10 (slice_range bytes (start + sign) at)) where
  abbrev negative : Bool
  negative = get_or bytes start 0 == 45

  abbrev digits : List ℕ
  digits = slice_range bytes (start + sign) at

  order : start ≤ at
  order = omega (arith, d.begins)

  parts : slice_range bytes start at ≡ sign_of negative ++ digits
  parts = signed_slice bytes start sign at negative signs some refl d.begins

  numeral : IsNumeral 10 digits
  numeral = grind (arith, length_range)

  -- they are a whole number
  pub whole_found : (r : Ratio) → value < 2 ^ 64 → r ≡ whole (signed negative value)
      → (at < length bytes → is_bare (get_or bytes at 0) ≡ false) → FindsNumber bytes start at r
  whole_found r short spelled ends =
      let same : whole (signed negative (digits_value 10 digits)) ≡ r =
      ap (λ (n : ℕ). whole (signed negative n)) (sym valued) ∙ sym spelled in
      finds_number bytes start at r
      (subst (λ (t : List ℕ). IsNumber t r) (sym parts)
      (subst (λ (q : Ratio). IsNumber (sign_of negative ++ digits) q) same
      (whole_spelled negative digits numeral (omega (arith, valued, short)))))
      order d.within ends

  -- they are a number together with what follows them
  pub number_found : (len : ℕ) (r : Ratio)
      → ((s ds : List ℕ) → IsSign s negative → IsNumeral 10 ds → digits_value 10 ds ≡ value
      → IsNumber (s ++ ds ++ take len (take (length bytes - at) (drop at bytes))) r)
      → len ≤ length (take (length bytes - at) (drop at bytes))
      → (at + len < length bytes → is_bare (get_or bytes (at + len) 0) ≡ false)
      → FindsNumber bytes start (at + len) r
  number_found len r spelled within ends =
      grind (arith, take_rest, length-drop, slice_more, parts, finds_number, is_sign_of, numeral)

pub ruleset index_steps = (digits_found, scanned)
