-- Sums of ratios, and when they fit.
use Rattle.std.specs.Prelude.{ℕ, ℤ, pos, ◌+ℤ◌, ◌*ℤ◌, ◌*◌, ◌/◌, ◌^◌, ◌<◌}
use Rattle.std.specs.Int.{◌∣◌}
use Rattle.gf_fraction.specs.Ratio.{Ratio, IsFraction, IsWithin, HasValue}

-- r has the value of x + y
abbrev pub IsSum : Ratio → Ratio → Ratio → Type 0
IsSum r x y = HasValue r (x.num *ℤ pos y.den +ℤ y.num *ℤ pos x.den) (x.den * y.den)

-- m is the least common multiple of a and b
pub record IsLcm (a b m : ℕ) : Type 0 where
  pub left : a ∣ m
  pub right : b ∣ m
  pub least : (k : ℕ) → a ∣ k → b ∣ k → m ∣ k

-- the numerator of x, scaled to the denominator m
abbrev pub scaled_num : Ratio → ℕ → ℤ
scaled_num x m = x.num *ℤ pos (m / x.den)

-- the sum fits: the least common denominator, both numerators scaled to it, and their sum are at
-- most 2^127 - 1 in size
pub record SumFits (x y : Ratio) : Type 0 where
  pub den : ℕ
  pub least : IsLcm x.den y.den den
  pub den_within : den < 2 ^ 127
  pub left_within : IsWithin (scaled_num x den)
  pub right_within : IsWithin (scaled_num y den)
  pub sum_within : IsWithin (scaled_num x den +ℤ scaled_num y den)

-- the sum fits, and is r
abbrev pub AddsTo : Ratio → Ratio → Ratio → Type 0
AddsTo x y r = SumFits x y × IsFraction r × IsSum r x y
