-- A test of two ratios part by part decides whether they are equal.
use Rattle.std.proofs.Common.{arith, ◌≡◌, nat_eq}
use Rattle.std.specs.Prelude.{◌&&◌}
use Rattle.std.specs.Bool.{Decides}
use Rattle.std.specs.Ordering.{int_eq}
use Rattle.gf_fraction.specs.Ratio.{Ratio}

pub Decides-ratio : (a b : Ratio) → Decides (int_eq a.num b.num && nat_eq a.den b.den) (a ≡ b)
Decides-ratio a b = grind arith
