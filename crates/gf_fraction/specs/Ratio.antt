-- Ratios, and which of them are fractions.
use Rattle.std.specs.Prelude.{◌≡◌, ℕ, ℤ, Bool, true, false, pos}
use Rattle.std.specs.Prelude.{neg_ℤ, unsigned_abs, ◌*ℤ◌, ◌^◌, ◌<◌}
use Rattle.std.specs.Int.{IsGcd}

-- a numerator over a denominator
pub record Ratio : Type 0 where
  pub num : ℤ
  pub den : ℕ

-- an integer is at most 2^127 - 1 in size
abbrev pub IsWithin : ℤ → Type 0
IsWithin z = unsigned_abs z < 2 ^ 127

-- a fraction: in lowest terms, with a denominator of 1 to 2^127 - 1 and a numerator of at most
-- 2^127 - 1 in size
pub record IsFraction (r : Ratio) : Type 0 where
  pub den_above_zero : 0 < r.den
  pub den_within : r.den < 2 ^ 127
  pub num_within : IsWithin r.num
  pub lowest : IsGcd (unsigned_abs r.num) r.den 1

-- r has the value of n over d
abbrev pub HasValue : Ratio → ℤ → ℕ → Type 0
HasValue r n d = r.num *ℤ pos d ≡ n *ℤ pos r.den

-- an integer as a ratio
abbrev pub whole : ℤ → Ratio
whole z = record { num = z; den = 1 }

-- a size with its sign
abbrev pub signed : Bool → ℕ → ℤ
signed false n = pos n
signed true n = neg_ℤ (pos n)
