-- Whole numbers and parts of one within the bound are fractions, and a sign and digits spell whole
-- numbers.
use Rattle.std.proofs.Common.{ℕ, pos, ◌^◌, ◌<◌, ◌++◌, Bool, true, false, List, [], arith, lit<}
use Rattle.std.proofs.Common.{refl}
use Rattle.std.specs.Prelude.{codes, unsigned_abs}
use Rattle.std.specs.Int.{IsGcd}
use Rattle.std.specs.Str.Parse.{IsNumeral, digits_value}
use Rattle.std.proofs.lemmas.Int.{ints}
use Rattle.gf_fraction.specs.Ratio.{IsFraction, IsWithin, signed}
use Rattle.gf_fraction.specs.Ratio as ratio
use Rattle.gf_fraction.specs.NumberSpelling.{IsNumber, IsSign}
use Rattle.gf_fraction.specs.NumberSpelling.IsSign.{absent, minus}
use Rattle.gf_fraction.specs.NumberSpelling.IsPlain.{whole}
use Rattle.gf_fraction.specs.NumberSpelling.HasShape.{plain}
use Rattle.gf_fraction.specs.NumberSpelling.Reading.{decimal}
use Rattle.gf_fraction.proofs.Divisors.{IsGcd-one_left, IsGcd-one_right}

pub whole_fraction : (n : ℕ) → n < 2 ^ 127 → IsFraction (ratio.whole (pos n))
whole_fraction n h = grind (arith, IsGcd-one_right)

pub part_fraction : (n : ℕ) → 0 < n → n < 2 ^ 127 → IsFraction (record { num = pos 1; den = n })
part_fraction n above h = grind (arith, IsGcd-one_left)

-- a sign, as short as can be
abbrev pub sign_of : Bool → List ℕ
sign_of false = []
sign_of true = codes "-"

pub is_sign_of : (negative : Bool) → IsSign (sign_of negative) negative
is_sign_of false = absent
is_sign_of true = minus

pub lowest_whole : (n : ℕ) → IsGcd n 1 1
lowest_whole n = IsGcd-one_right n

lowest_signed : (negative : Bool) (n : ℕ) → IsGcd (unsigned_abs (signed negative n)) 1 1
lowest_signed negative n = lowest_whole (unsigned_abs (signed negative n))

-- a sign and digits spell a whole number
pub digits_spelled : (negative : Bool) (digits : List ℕ) → IsNumeral 10 digits
    → digits_value 10 digits < 2 ^ 64
    → IsNumber (sign_of negative ++ digits) (ratio.whole (signed negative (digits_value 10 digits)))
digits_spelled negative digits numeral short = record {
  negative = negative;
  reading = decimal (digits_value 10 digits) 0 (pos 0);
  spelled = record {
    sign = sign_of negative;
    rest = digits;
    spelled = refl;
    is_sign = is_sign_of negative;
    has_shape = plain digits digits 0 (whole digits numeral);
  };
  den_above_zero = lit< tt;
  bounded = record {
    digits_within = omega arith;
    places_within = omega arith;
    exponent_within = omega arith;
    power_within = omega (arith, ints);
    scaled_within = omega arith;
  };
  fraction = record {
    den_above_zero = lit< tt;
    den_within = omega arith;
    num_within = grind arith;
    lowest = lowest_signed negative (digits_value 10 digits);
  };
  value = refl;
}
