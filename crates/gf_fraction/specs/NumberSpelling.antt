-- How a text spells a number, and within which bounds (this project's profile).
use Rattle.std.specs.Prelude.{unsigned_abs, length, negsuc, false, codes, Bool, true, List, ◌++◌, ℕ}
use Rattle.std.specs.Prelude.{◌-ℤ◌, ◌≤ℤ◌, ◌≡◌, ◌⊎◌, pos, suc, ◌*◌, ◌^◌, ◌<◌, ◌≤◌, [], ℤ}
use Rattle.std.specs.Str.Parse.{IsNumeral, digits_value}
use Rattle.gf_fraction.specs.Ratio.{Ratio, IsFraction, HasValue, signed}

-- what a text says after its sign, before any bound is checked: digits, this many of them after the
-- point, with an exponent; or a numerator over a denominator
pub data Reading : Type 0 where
  decimal : (digits places : ℕ) (exponent : ℤ) → Reading
  rational : (num den : ℕ) → Reading

-- a sign, or none, and whether it makes the number negative
pub data IsSign : List ℕ → Bool → Type 0 where
  absent : IsSign [] false
  plus : IsSign (codes "+") false
  minus : IsSign (codes "-") true

-- digits, or digits with one point, one side of which may be empty: the digits without the point,
-- and how many follow it
pub data IsPlain : List ℕ → (digits : List ℕ) → (places : ℕ) → Type 0 where
  whole : (digits : List ℕ) → IsNumeral 10 digits → IsPlain digits digits 0
  pointed : (before after : List ℕ) → IsNumeral 10 (before ++ after)
      → IsPlain (before ++ codes "." ++ after) (before ++ after) (length after)

-- `e` or `E`, a sign or none, and digits
pub record IsExponent (text : List ℕ) (exponent : ℤ) : Type 0 where
  pub mark : List ℕ
  pub sign : List ℕ
  pub negative : Bool
  pub digits : List ℕ
  pub spelled : text ≡ mark ++ sign ++ digits
  pub is_mark : (mark ≡ codes "e") ⊎ (mark ≡ codes "E")
  pub is_sign : IsSign sign negative
  pub some : IsNumeral 10 digits
  pub value : exponent ≡ signed negative (digits_value 10 digits)

-- the four shapes after the sign: digits; digits with one point; either of these with an exponent;
-- digits, a slash and digits
pub data HasShape : List ℕ → Reading → Type 0 where
  plain : (text digits : List ℕ) (places : ℕ) → IsPlain text digits places
      → HasShape text (decimal (digits_value 10 digits) places (pos 0))
  raised : (text more digits : List ℕ) (places : ℕ) (exponent : ℤ) → IsPlain text digits places
      → IsExponent more exponent
      → HasShape (text ++ more) (decimal (digits_value 10 digits) places exponent)
  fraction : (num den : List ℕ) → IsNumeral 10 num → IsNumeral 10 den
      → HasShape (num ++ codes "/" ++ den) (rational (digits_value 10 num) (digits_value 10 den))

-- the text is a sign, or none, followed by one of the shapes
pub record SpellsReading (text : List ℕ) (negative : Bool) (reading : Reading) : Type 0 where
  pub sign : List ℕ
  pub rest : List ℕ
  pub spelled : text ≡ sign ++ rest
  pub is_sign : IsSign sign negative
  pub has_shape : HasShape rest reading

-- digits over ten to the power k if k is not negative, and otherwise digits times ten to the power
-- -k: the size of the numerator, and the denominator
abbrev pub scaled_digits : ℕ → ℤ → ℕ
scaled_digits digits (pos k) = digits
scaled_digits digits (negsuc k) = digits * 10 ^ suc k

abbrev pub power_of_ten : ℤ → ℕ
power_of_ten (pos k) = 10 ^ k
power_of_ten (negsuc k) = 1

-- the size of the numerator that a reading gives, and its denominator
abbrev pub size_of : Reading → ℕ
size_of (decimal digits places exponent) = scaled_digits digits (pos places -ℤ exponent)
size_of (rational num den) = num

abbrev pub den_of : Reading → ℕ
den_of (decimal digits places exponent) = power_of_ten (pos places -ℤ exponent)
den_of (rational num den) = den

-- the bounds of a decimal: the digits are at most 2^127 - 1, at most 38 of them follow the point,
-- the exponent is -38 to 38, the power of ten under the digits is at most 38, and if that power is
-- negative, the digits times ten to its size are at most 2^127 - 1
pub record IsBoundedDecimal (digits places : ℕ) (exponent : ℤ) : Type 0 where
  pub digits_within : digits < 2 ^ 127
  pub places_within : places ≤ 38
  pub exponent_within : unsigned_abs exponent ≤ 38
  pub power_within : (pos places -ℤ exponent) ≤ℤ pos 38
  pub scaled_within : scaled_digits digits (pos places -ℤ exponent) < 2 ^ 127

-- no bound is broken; both parts of a rational are at most 2^127 - 1
abbrev pub IsBounded : Reading → Type 0
IsBounded (decimal digits places exponent) = IsBoundedDecimal digits places exponent
IsBounded (rational num den) = (num < 2 ^ 127) × (den < 2 ^ 127)

-- the text is a number, and r is its value in lowest terms
pub record IsNumber (text : List ℕ) (r : Ratio) : Type 0 where
  pub negative : Bool
  pub reading : Reading
  pub spelled : SpellsReading text negative reading
  pub den_above_zero : 0 < den_of reading
  pub bounded : IsBounded reading
  pub fraction : IsFraction r
  pub value : HasValue r (signed negative (size_of reading)) (den_of reading)
