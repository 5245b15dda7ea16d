-- Rationals of any size: their sums and products, and when two are equal.
use Rattle.std.specs.Prelude.{◌≡◌, pos, ◌+ℤ◌, ◌*ℤ◌, ◌*◌, ◌<◌, List, [], ◌∷◌}
use Rattle.gf_fraction.specs.Ratio.{Ratio, whole}

-- by cross multiplication of ratios with denominators above 0
pub record IsEqual (x y : Ratio) : Type 0 where
  pub left : 0 < x.den
  pub right : 0 < y.den
  pub crosswise : x.num *ℤ pos y.den ≡ y.num *ℤ pos x.den

abbrev pub zero_ratio : Ratio
zero_ratio = whole (pos 0)

abbrev pub one_ratio : Ratio
one_ratio = whole (pos 1)

abbrev pub plus : Ratio → Ratio → Ratio
plus x y = record { num = x.num *ℤ pos y.den +ℤ y.num *ℤ pos x.den; den = x.den * y.den }

abbrev pub times : Ratio → Ratio → Ratio
times x y = record { num = x.num *ℤ y.num; den = x.den * y.den }

-- their sum
abbrev pub total : List Ratio → Ratio
total [] = zero_ratio
total (x ∷ xs) = plus x (total xs)

-- their product
abbrev pub ratio_product : List Ratio → Ratio
ratio_product [] = one_ratio
ratio_product (x ∷ xs) = times x (ratio_product xs)
