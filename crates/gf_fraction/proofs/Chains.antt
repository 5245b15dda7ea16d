-- Equations of rationals, one after another, and what they are put together from.
use Rattle.std.proofs.Common.{arith}
use Rattle.gf_fraction.specs.Ratio.{Ratio}
use Rattle.gf_fraction.specs.Rational.{IsEqual, plus, times}
use Rattle.gf_fraction.proofs.Rationals.{equal_refl, equal_sym, equal_trans, plus_both}
use Rattle.gf_fraction.proofs.Rationals.{times_both, plus_assoc, IsAbove, plus_above}

pub ◌then◌ : {x y z : Ratio} → IsEqual x y → IsEqual y z → IsEqual x z
◌then◌ {x} {y} {z} h k = equal_trans x y z h k

infixr 2 ◌then◌
pub back : {x y : Ratio} → IsEqual x y → IsEqual y x
back {x} {y} h = equal_sym x y h

-- in the first part of a sum or a product, and in the second
pub plus_left : {x u : Ratio} (y : Ratio) → IsAbove y → IsEqual x u → IsEqual (plus x y) (plus u y)
plus_left {x} {u} y hy h = plus_both x u y y h (equal_refl y hy)

pub plus_right : {y v : Ratio} (x : Ratio) → IsAbove x → IsEqual y v → IsEqual (plus x y) (plus x v)
plus_right {y} {v} x hx h = plus_both x x y v (equal_refl x hx) h

pub times_right : {y v : Ratio} (x : Ratio) → IsAbove x → IsEqual y v
    → IsEqual (times x y) (times x v)
times_right {y} {v} x hx h = times_both x x y v (equal_refl x hx) h

-- (a + b) + (c + d) is (a + c) + (b + d)
pub plus_across : (a b c d : Ratio) → IsAbove a → IsAbove b → IsAbove c → IsAbove d
    → IsEqual (plus (plus a b) (plus c d)) (plus (plus a c) (plus b d))
plus_across a b c d ha hb hc hd =
    plus_assoc a b (plus c d) ha hb (plus_above c d hc hd)
    then plus_right a ha
    (back (plus_assoc b c d hb hc hd)
    then plus_left d hd (grind arith)
    then plus_assoc c b d hc hb hd)
    then back (plus_assoc a c (plus b d) ha hc (plus_above b d hb hd))
