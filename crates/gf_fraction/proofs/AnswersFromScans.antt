-- The answer for a text, from what the scan of it finds: capped numbers keep its value and its
-- fault.
use Rattle.std.proofs.Common.{length, arith, Bool, List, None, Some, refl, ◌++◌, ◌<◌, ◌∙◌, ◌∷◌, ◌≡◌}
use Rattle.std.proofs.Common.{[], ap, ℕ}
use Rattle.gf_fraction.specs.Ratio.{Ratio}
use Rattle.gf_fraction.specs.NumberSpelling.{SpellsReading, IsBounded, HasShape, IsNumber, IsPlain}
use Rattle.gf_fraction.specs.NumberSpelling.{Reading, den_of}
use Rattle.gf_fraction.specs.NoNumber.{HasNumberFault}
use Rattle.gf_fraction.specs.NumberSpelling.IsPlain.{pointed, whole}
use Rattle.gf_fraction.specs.inner.NumberScan.{HasReadingFault, after_sign, reading_of, IsValueOf}
use Rattle.gf_fraction.specs.inner.NumberScan.{is_minus, scan}
use Rattle.gf_fraction.specs.declared.read.Spelling.{Spelling}
use Rattle.gf_fraction.specs.declared.fraction.NumberFault.{NumberFault}
use Rattle.gf_fraction.proofs.PowersOfTen.{power_of_ten-above}
use Rattle.gf_fraction.proofs.SpelledIsFound.{ascii_from_digit, capped_exponent, digit_unsigned}
use Rattle.gf_fraction.proofs.SpelledIsFound.{scan_shape, sign_split, Unsigned, held}
use Rattle.gf_fraction.proofs.FoundIsSpelled.{FoundNumber}

-- no shape begins with a sign
Unsigned-append : (text more : List ℕ) → 0 < length text → Unsigned text → Unsigned (text ++ more)
Unsigned-append text more some h = grind arith

plain_unsigned : (text digits : List ℕ) (places : ℕ) → IsPlain text digits places
    → Unsigned text × (0 < length text)
plain_unsigned text _ _ (whole _ is) = ((grind arith), is.0)
plain_unsigned _ _ _ (pointed [] after is) = ((refl, refl), omega arith)
plain_unsigned _ _ _ (pointed (b ∷ bs) after is) = grind arith

shape_unsigned : (text : List ℕ) (reading : Reading) → HasShape text reading → Unsigned text
shape_unsigned text reading h =
    grind (arith, plain_unsigned, Unsigned-append, digit_unsigned, ascii_from_digit)

-- what a text spells is scanned
pub scan_spelled : (text : List ℕ) (negative : Bool) (reading : Reading)
    → SpellsReading text negative reading
    → (is_minus text ≡ negative) × (scan (after_sign text) ≡ Some (held reading))
scan_spelled text negative reading h =
    let e =
    sign_split h.sign h.rest negative h.is_sign (shape_unsigned h.rest reading h.has_shape) in (
      ap is_minus h.spelled ∙ e.0,
      ap (λ t. scan (after_sign t)) h.spelled ∙ ap scan e.1 ∙ scan_shape h.rest reading h.has_shape,
    )

-- within the bounds nothing is capped
pub bounded_kept : (r : Reading) → IsBounded r → reading_of (held r) ≡ r
bounded_kept r h = grind arith

pub bounded_held : (r : Reading) → IsBounded (reading_of (held r)) → reading_of (held r) ≡ r
bounded_held r h = grind arith

pub zero_held : (r : Reading) → den_of (reading_of (held r)) ≡ 0 → den_of r ≡ 0
zero_held r h = grind (arith, power_of_ten-above, capped_exponent)

pub zero_kept : (r : Reading) → den_of r ≡ 0 → den_of (reading_of (held r)) ≡ 0
zero_kept r h = grind (arith, power_of_ten-above)

-- the answers of the code

pub number_from_value : (text : List ℕ) (negative : Bool) (s : Spelling) (r : Ratio)
    → FoundNumber text negative s → IsValueOf negative (reading_of s) r → IsNumber text r
number_from_value text negative s r f v = grind (arith, held, bounded_held)

pub fault_from_reading : (text : List ℕ) (negative : Bool) (s : Spelling) (fault : NumberFault)
    → FoundNumber text negative s → HasReadingFault (reading_of s) fault → HasNumberFault text fault
fault_from_reading text negative s fault h h' =
    grind (arith, held, power_of_ten-above, capped_exponent, bounded_kept)

pub unspelled : (text : List ℕ) → scan (after_sign text) ≡ None
    → (negative : Bool) (reading : Reading) → ¬ (SpellsReading text negative reading)
unspelled text none negative reading h = let e = (scan_spelled text negative reading h).1 in cc
