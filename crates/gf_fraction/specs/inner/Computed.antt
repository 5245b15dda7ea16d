-- Sums, products and what reading answers, computed, for the machines of the crates above. No
-- contract here cites them: proofs/ComputedArithmetic and proofs/ComputedAnswers prove that they
-- agree with the relations.
use Rattle.std.specs.Prelude.{◌==◌, ◌&&◌, ℕ, ℤ, Bool, zero, suc, List, Option, Some, None}
use Rattle.std.specs.Prelude.{Result, Ok, Err, pos, unsigned_abs, int_lt, int_le, nat_lt}
use Rattle.std.specs.Prelude.{nat_le, ◌+ℤ◌, ◌-ℤ◌, ◌*ℤ◌, ◌*◌, ◌/◌, ◌%◌, ◌^◌, if◌then◌else◌}
use Rattle.gf_fraction.specs.Ratio.{Ratio, signed}
use Rattle.gf_fraction.specs.NumberSpelling.{Reading, size_of, den_of, scaled_digits}
use Rattle.gf_fraction.specs.NumberSpelling.Reading.{decimal, rational}
use Rattle.gf_fraction.specs.inner.NumberScan.{scan, after_sign, is_minus, reading_of}
use Rattle.gf_fraction.specs.declared.fraction.NumberFault.{NumberFault}
use Rattle.gf_fraction.specs.declared.fraction.NumberFault.TheVariants.{NotANumber}
use Rattle.gf_fraction.specs.declared.fraction.NumberFault.TheVariants.{ZeroDenominator, TooLarge}
use Rattle.gf_fraction.specs.declared.read.Spelling.{Spelling}

-- the greatest common divisor, by Euclid's steps; any number of steps above b is enough
unfoldable pub gcd_within : ℕ → ℕ → ℕ → ℕ
gcd_within zero a b = a
gcd_within (suc n) a zero = a
gcd_within (suc n) a (suc b) = gcd_within n (suc b) (a % suc b)

-- an integer over a denominator, in lowest terms
abbrev pub lowest_by : ℤ → ℕ → ℕ → Ratio
lowest_by z d g = record { num = signed (int_lt z (pos 0)) (unsigned_abs z / g); den = d / g }

unfoldable pub lowest_of : ℤ → ℕ → Ratio
lowest_of z d = lowest_by z d (gcd_within (suc d) (unsigned_abs z) d)

abbrev pub is_within : ℤ → Bool
is_within z = nat_lt (unsigned_abs z) (2 ^ 127)

-- the sum of two numerators over a denominator, if all of these are within the bound
abbrev pub sum_within : ℤ → ℤ → ℕ → Option Ratio
sum_within left right den =
    if nat_lt den (2 ^ 127) && is_within left && is_within right && is_within (left +ℤ right)
    then Some (lowest_of (left +ℤ right) den)
    else None

abbrev pub sum_by : Ratio → Ratio → ℕ → Option Ratio
sum_by x y g =
    sum_within (x.num *ℤ pos (y.den / g)) (y.num *ℤ pos (x.den / g)) (x.den * (y.den / g))

-- the sum, if it fits
unfoldable pub sum_of : Ratio → Ratio → Option Ratio
sum_of x y = sum_by x y (gcd_within (suc y.den) x.den y.den)

-- a ratio, if its parts are within the bound
abbrev pub if_within : Ratio → Option Ratio
if_within r = if nat_lt r.den (2 ^ 127) && is_within r.num then Some r else None

-- the product, if it fits
unfoldable pub product_of : Ratio → Ratio → Option Ratio
product_of x y = if_within (lowest_of (x.num *ℤ y.num) (x.den * y.den))

abbrev pub is_bounded : Reading → Bool
is_bounded (decimal digits places exponent) =
    nat_lt digits (2 ^ 127) && nat_le places 38 && nat_le (unsigned_abs exponent) 38
    && int_le (pos places -ℤ exponent) (pos 38)
    && nat_lt (scaled_digits digits (pos places -ℤ exponent)) (2 ^ 127)
is_bounded (rational num den) = nat_lt num (2 ^ 127) && nat_lt den (2 ^ 127)

-- the value of a reading, or what is wrong with it
abbrev pub value_of : Bool → Reading → Result Ratio NumberFault
value_of negative reading =
    if den_of reading == 0 then Err ZeroDenominator
    else if is_bounded reading
    then Ok (lowest_of (signed negative (size_of reading)) (den_of reading))
    else Err TooLarge

abbrev pub answer_of : Bool → Option Spelling → Result Ratio NumberFault
answer_of negative (Some spelling) = value_of negative (reading_of spelling)
answer_of negative None = Err NotANumber

-- what reading a text answers
unfoldable pub number_of : List ℕ → Result Ratio NumberFault
number_of text = answer_of (is_minus text) (scan (after_sign text))
