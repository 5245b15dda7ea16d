-- Powers of ten, and the bounds of a decimal.
use Rattle.std.proofs.Common.{◌≡◌, ℕ, ℤ, pos, ◌^◌, ◌<◌, ◌≤◌, arith, lit<}
use Rattle.std.specs.Prelude.{unsigned_abs, ◌-ℤ◌, ◌≤ℤ◌}
use Rattle.std.proofs.Math.Nat.{one-le-pow, pow-le-pow_right}
use Rattle.gf_fraction.specs.NumberSpelling.{power_of_ten}

pub pow_above_zero : (k : ℕ) → 0 < 10 ^ k
pow_above_zero k = let h : 1 ≤ 10 ^ k = one-le-pow k 10 (lit< tt) in omega (arith, h)

pub pow_within : (k : ℕ) → k ≤ 38 → 10 ^ k < 2 ^ 127
pow_within k h = grind (arith, pow-le-pow_right)

pub ruleset power_bounds = (pow_above_zero, pow_within)

pub power_of_ten-above : (z : ℤ) → 0 < power_of_ten z
power_of_ten-above z = grind (arith, pow_above_zero)

-- what is known of a decimal whose digits, places, exponent and power are within their bounds
pub record IsScalable (digits places : ℕ) (exponent power : ℤ) : Type 0 where
  pub digits_within : digits < 2 ^ 127
  pub places_within : places ≤ 38
  pub exponent_within : unsigned_abs exponent ≤ 38
  pub power_within : (pos places -ℤ exponent) ≤ℤ pos 38
  pub power_is : power ≡ pos places -ℤ exponent
