-- The texts of numbers and of indices are the bytes of bare tokens, and the texts of indices are
-- read as indices.
use Rattle.std.proofs.Common.{arith, List, refl, true, ◌++◌, ◌<◌, ◌^◌, ◌∷◌, ◌≡◌, ◌≤◌, [], ℕ, ℤ}
use Rattle.std.specs.Prelude.{decimal, codes, Bool}
use Rattle.std.specs.Str.Parse.{AllDigits, IsNumeral}
use Rattle.std.proofs.lemmas.Bool.Decides.{nat_tests}
use Rattle.std.proofs.lemmas.Fmt.{decimal_is_IsNumeral}
use Rattle.gf_token.specs.Byte.{is_bare}
use Rattle.gf_token.specs.Token.Token.{Bare}
use Rattle.gf_token.specs.TokenSpelling.{IsSpelled}
use Rattle.gf_token.specs.Index.{IsIndex}
use Rattle.gf_token.proofs.Spelled.{AllBare}
use Rattle.gf_fraction.specs.Ratio.{IsFraction, Ratio}
use Rattle.gf_fraction.specs.NumberText.{number_text}
use Rattle.gf_fraction.specs.NumberSpelling.{IsExponent, HasShape, IsNumber, IsPlain, Reading}
use Rattle.gf_fraction.specs.NumberSpelling.{IsSign}
use Rattle.gf_fraction.specs.NumberSpelling.IsPlain.{pointed, whole}
use Rattle.gf_fraction.specs.NumberSpelling.HasShape.{fraction, raised, plain}
use Rattle.gf_fraction.specs.Offered.{number_of}
use Rattle.gf_fraction.proofs.Offered.{written_is_read, number_again, all_parts, all_both}

bare_digits : (bytes : List ℕ) → AllDigits 10 bytes → AllBare bytes
bare_digits [] h = tt
bare_digits (b ∷ bytes) h = ((grind (arith, nat_tests)), bare_digits bytes h.1)

bare_both : (xs ys : List ℕ) → AllBare xs → AllBare ys → AllBare (xs ++ ys)
bare_both xs ys h k = all_both (λ b. is_bare b ≡ true) xs ys h k

-- ---- the parts of a number

bare_sign : (sign : List ℕ) (negative : Bool) → IsSign sign negative → AllBare sign
bare_sign sign negative h = grind arith

bare_plain : (text digits : List ℕ) (places : ℕ) → IsPlain text digits places → AllBare text
bare_plain text _ _ (whole _ is) = bare_digits text is.1
bare_plain _ _ _ (pointed before after is) =
    let parts =
    all_parts (λ b. is_bare b ≡ true) before after (bare_digits (before ++ after) is.1) in
    bare_both (before ++ codes ".") after (bare_both before (codes ".") parts.0 (refl, tt)) parts.1

bare_exponent : (text : List ℕ) (exponent : ℤ) → IsExponent text exponent → AllBare text
bare_exponent text exponent h = grind (arith, bare_both, bare_digits)

bare_shape : (text : List ℕ) (reading : Reading) → HasShape text reading → AllBare text
bare_shape text _ (plain _ digits places is) = bare_plain text digits places is
bare_shape _ _ (raised text more digits places exponent is by) =
    bare_both text more (bare_plain text digits places is) (bare_exponent more exponent by)
bare_shape _ _ (fraction num den is_num is_den) = grind (arith, bare_both, bare_digits)

-- ---- a number, and an index

pub number_bare : (text : List ℕ) (r : Ratio) → IsNumber text r → IsSpelled (Bare text)
unfolding number_of
number_bare [] r h = grind (arith, number_again [] r h)
number_bare (b ∷ bytes) r h = grind (arith, bare_both, bare_sign, bare_shape)

pub number_spelled : (r : Ratio) → IsFraction r → IsSpelled (Bare (number_text r))
number_spelled r h = number_bare (number_text r) r (written_is_read r h)

pub digits_spelled : (bytes : List ℕ) → IsNumeral 10 bytes → IsSpelled (Bare bytes)
digits_spelled bytes h = grind (arith, bare_digits)

pub decimal_is_index : (n : ℕ) → n < 2 ^ 32 → IsIndex (decimal n) n
decimal_is_index n h =
    let wide : 2 ^ 32 ≤ 10 ^ 20 = omega arith in
    let d = decimal_is_IsNumeral n (omega (arith, h, wide)) in
    (d.0, d.1, h)

pub index_spelled : (n : ℕ) → n < 2 ^ 32 → IsSpelled (Bare (decimal n))
index_spelled n h = digits_spelled (decimal n) (decimal_is_index n h).0
