-- What the code finds in a number text as it goes along. Only contracts inside this crate cite this
-- file.
use Rattle.std.specs.Prelude.{◌≡◌, ◌<◌, ℕ, ℤ, Bool, true, false, List, [], ◌∷◌, ◌++◌}
use Rattle.std.specs.Prelude.{length, Option, Some, None, pos, ◌==◌, ◌||◌, ◌&&◌}
use Rattle.std.specs.Prelude.{nat_lt, min, ◌^◌, option_map, if◌then◌else◌}
use Rattle.std.specs.Char.{is_ascii_digit}
use Rattle.std.specs.Str.Parse.{IsNumeral, digits_value, digits_value_after}
use Rattle.gf_fraction.specs.Ratio.{Ratio, IsFraction, HasValue, signed}
use Rattle.gf_fraction.specs.inner.Steps.{IsLowest}
use Rattle.gf_fraction.specs.NumberSpelling.{Reading, HasShape, size_of, den_of}
use Rattle.gf_fraction.specs.NumberSpelling.{scaled_digits, power_of_ten, IsBounded}
use Rattle.gf_fraction.specs.NumberSpelling.Reading.{decimal, rational}
use Rattle.gf_fraction.specs.inner.ShortNumber.{IsLeftByWords, IsReadInWords, IsRun}
use Rattle.gf_fraction.specs.declared.fraction.NumberFault.{NumberFault}
use Rattle.gf_fraction.specs.declared.fraction.NumberFault.TheVariants.{NotANumber}
use Rattle.gf_fraction.specs.declared.fraction.NumberFault.TheVariants.{ZeroDenominator, TooLarge}
use Rattle.gf_fraction.specs.declared.read.Spelling.{Spelling}
use Rattle.gf_fraction.specs.declared.read.Spelling.TheVariants.{Decimal, Rational}

-- a number; 2^127 stands for any that is too large
abbrev pub capped : ℕ → ℕ
capped n = min n (2 ^ 127)

-- the digits that a text begins with, and what follows them
abbrev pub leading : List ℕ → List ℕ
leading [] = []
leading (c ∷ cs) = if is_ascii_digit c then c ∷ leading cs else []

abbrev pub unread : List ℕ → List ℕ
unread [] = []
unread (c ∷ cs) = if is_ascii_digit c then unread cs else c ∷ cs

-- the value of the digits that a text begins with, after digits of value n
abbrev pub leading_value : ℕ → List ℕ → ℕ
leading_value n text = digits_value_after 10 n (leading text)

abbrev pub has_digits : List ℕ → Bool
has_digits text = nat_lt 0 (length (leading text))

-- a sign and the rest
abbrev pub is_minus : List ℕ → Bool
is_minus [] = false
is_minus (c ∷ cs) = c == 45

abbrev pub after_sign : List ℕ → List ℕ
after_sign [] = []
after_sign (c ∷ cs) = if (c == 43) || (c == 45) then cs else c ∷ cs

-- only digits, after the mark of an exponent and its sign; above 38, all are alike
abbrev pub scan_exponent : List ℕ → Option ℤ
scan_exponent text =
    if has_digits (after_sign text) && (length (unread (after_sign text)) == 0)
    then Some (signed (is_minus text) (min (capped (leading_value 0 (after_sign text))) 39))
    else None

-- the end of a text, or an exponent, after digits with or without a point
abbrev pub scan_end : ℕ → ℕ → List ℕ → Option Spelling
scan_end digits places [] = Some (Decimal digits places (pos 0))
scan_end digits places (c ∷ cs) =
    if (c == 101) || (c == 69)
    then option_map (λ e. Decimal digits places e) (scan_exponent cs)
    else None

abbrev pub scan_decimal : ℕ → Bool → ℕ → List ℕ → Option Spelling
scan_decimal digits true places rest = scan_end digits places rest
scan_decimal digits false places rest = None

-- digits after a point
abbrev pub scan_pointed : ℕ → Bool → List ℕ → Option Spelling
scan_pointed digits some text =
    scan_decimal (capped (leading_value digits text)) (some || has_digits text)
    (length (leading text)) (unread text)

-- a denominator after a slash
abbrev pub scan_fraction : ℕ → Bool → List ℕ → Option Spelling
scan_fraction num some text =
    if some && has_digits text && (length (unread text) == 0)
    then Some (Rational num (capped (leading_value 0 text)))
    else None

-- what follows the first digits, which have this value, if there are any
abbrev pub scan_rest : ℕ → Bool → List ℕ → Option Spelling
scan_rest digits some [] = scan_decimal digits some 0 []
scan_rest digits some (c ∷ cs) =
    if c == 47 then scan_fraction digits some cs
    else if c == 46 then scan_pointed digits some cs
    else scan_decimal digits some 0 (c ∷ cs)

-- a text after its sign
abbrev pub scan : List ℕ → Option Spelling
scan text = scan_rest (capped (leading_value 0 text)) (has_digits text) (unread text)

-- a spelling as a reading
abbrev pub reading_of : Spelling → Reading
reading_of (Decimal digits places exponent) = decimal digits places exponent
reading_of (Rational num den) = rational num den

-- a text begins with a run of digits, which have this value after digits of value n, and this
-- follows them
pub record AreRead (n : ℕ) (text : List ℕ) (value : ℕ) (rest : List ℕ) : Type 0 where
  pub digits : List ℕ
  pub spelled : text ≡ digits ++ rest
  pub run : IsRun n digits rest
  pub is : value ≡ digits_value_after 10 n digits

-- a text after its sign is not all read in one pass: no digits come first, or what follows the
-- first digits is left, or more follows what is read on
pub data IsNotShort (text : List ℕ) : Type 0 where
  no_digits : (n : ℕ) (rest : List ℕ) → AreRead 0 text n rest → length rest ≡ length text
      → IsNotShort text
  left : (n : ℕ) (rest : List ℕ) → AreRead 0 text n rest → IsLeftByWords n rest → IsNotShort text
  more : (n : ℕ) (on rest : List ℕ) → AreRead 0 text n (on ++ rest) → IsReadInWords n on rest
      → 0 < length rest → IsNotShort text

-- after digits of value n, a text begins with what completes a number within the bounds, p over q
-- in lowest terms, and this follows it
pub record Completes (n : ℕ) (text : List ℕ) (p q : ℕ) (rest : List ℕ) : Type 0 where
  pub more : List ℕ
  pub reading : Reading
  pub spelled : text ≡ more ++ rest
  pub read_on : IsReadInWords n more rest
  pub has_shape : (digits : List ℕ) → IsNumeral 10 digits → digits_value 10 digits ≡ n
      → HasShape (digits ++ more) reading
  pub den_above_zero : 0 < den_of reading
  pub bounded : IsBounded reading
  pub lowest : IsLowest (size_of reading) (den_of reading) p q

-- the value of a reading within its bounds, or what is wrong with it
pub record IsValueOf (negative : Bool) (reading : Reading) (r : Ratio) : Type 0 where
  pub den_above_zero : 0 < den_of reading
  pub bounded : IsBounded reading
  pub fraction : IsFraction r
  pub value : HasValue r (signed negative (size_of reading)) (den_of reading)

-- the same for digits and a power of ten
pub record IsScaled (negative : Bool) (digits : ℕ) (power : ℤ) (r : Ratio) : Type 0 where
  pub within : scaled_digits digits power < 2 ^ 127
  pub fraction : IsFraction r
  pub value : HasValue r (signed negative (scaled_digits digits power)) (power_of_ten power)

abbrev pub HasReadingFault : Reading → NumberFault → Type 0
HasReadingFault reading NotANumber = ⊥
HasReadingFault reading ZeroDenominator = den_of reading ≡ 0
HasReadingFault reading TooLarge = (0 < den_of reading) × (¬ (IsBounded reading))
