-- Products of ratios, and when they fit.
use Rattle.std.specs.Prelude.{◌*ℤ◌, ◌*◌}
use Rattle.gf_fraction.specs.Ratio.{Ratio, IsFraction, HasValue}

-- r has the value of x times y
abbrev pub IsProduct : Ratio → Ratio → Ratio → Type 0
IsProduct r x y = HasValue r (x.num *ℤ y.num) (x.den * y.den)

-- the product fits: in lowest terms it is a fraction
pub record ProductFits (x y : Ratio) : Type 0 where
  pub product : Ratio
  pub fraction : IsFraction product
  pub value : IsProduct product x y

-- the product is a fraction, which is r
abbrev pub MultipliesTo : Ratio → Ratio → Ratio → Type 0
MultipliesTo x y r = IsFraction r × IsProduct r x y
