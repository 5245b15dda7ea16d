-- Laws of rationals of any size, up to equality by cross multiplication.
use Rattle.std.proofs.Common.{arith, refl, pos, sym, ◌*◌, ◌<◌, ◌∙◌, ◌≡◌, ap, ℕ, ℤ}
use Rattle.std.specs.Prelude.{◌*ℤ◌, ◌+ℤ◌}
use Rattle.std.proofs.Math.IntN.{+ℤ_assoc, *ℤ_comm}
use Rattle.gf_fraction.specs.Ratio.{Ratio}
use Rattle.gf_fraction.proofs.Integers.{*ℤ-cancel_right, *ℤ_right_comm, *ℤ_assoc, add-*ℤ}
use Rattle.gf_fraction.proofs.Products.{mul_above}
use Rattle.gf_fraction.specs.Rational.{zero_ratio, IsEqual, times, plus}

-- ---- denominators above zero

abbrev pub IsAbove : Ratio → Type 0
IsAbove r = 0 < r.den

pub plus_above : (x y : Ratio) → IsAbove x → IsAbove y → IsAbove (plus x y)
plus_above x y hx hy = mul_above x.den y.den hx hy

pub times_above : (x y : Ratio) → IsAbove x → IsAbove y → IsAbove (times x y)
times_above x y hx hy = mul_above x.den y.den hx hy

-- ---- integers times numbers

over : (z : ℤ) (m n : ℕ) → (z *ℤ pos m) *ℤ pos n ≡ z *ℤ pos (m * n)
over z m n = *ℤ_assoc z (pos m) (pos n)

at : (z : ℤ) (m n : ℕ) → m ≡ n → z *ℤ pos m ≡ z *ℤ pos n
at z m n e = ap (λ k. z *ℤ pos k) e

-- ---- equality

pub same_parts : (x y : Ratio) → 0 < x.den → x.num ≡ y.num → x.den ≡ y.den → IsEqual x y
same_parts x y above num den = grind arith

pub equal_refl : (x : Ratio) → 0 < x.den → IsEqual x x
equal_refl x above = same_parts x x above refl refl

pub equal_sym : (x y : Ratio) → IsEqual x y → IsEqual y x
equal_sym x y h = record { left = h.right; right = h.left; crosswise = sym h.crosswise }

pub equal_trans : (x y z : Ratio) → IsEqual x y → IsEqual y z → IsEqual x z
equal_trans x y z h k = record {
  left = h.left;
  right = k.right;
  crosswise = *ℤ-cancel_right (x.num *ℤ pos z.den) (z.num *ℤ pos x.den) y.den h.right
      (*ℤ_right_comm x.num (pos z.den) (pos y.den) ∙ ap (λ n. n *ℤ pos z.den) h.crosswise
      ∙ *ℤ_right_comm y.num (pos x.den) (pos z.den) ∙ ap (λ n. n *ℤ pos x.den) k.crosswise
      ∙ *ℤ_right_comm z.num (pos y.den) (pos x.den));
}

-- ---- sums and products of equal rationals

-- one of the two parts of a sum, over the other denominators
part : (x y : Ratio) (b d : ℕ) → IsEqual x y
    → (x.num *ℤ pos b) *ℤ pos (y.den * d) ≡ (y.num *ℤ pos d) *ℤ pos (x.den * b)
part x y b d h =
    let left : b * (y.den * d) ≡ y.den * (b * d) = omega arith in
    let right : x.den * (b * d) ≡ d * (x.den * b) = omega arith in
    over x.num b (y.den * d)
    ∙ at x.num _ _ left
    ∙ sym (over x.num y.den (b * d))
    ∙ ap (λ n. n *ℤ pos (b * d)) h.crosswise
    ∙ over y.num x.den (b * d) ∙ at y.num _ _ right ∙ sym (over y.num d (x.den * b))

pub plus_both : (x u y v : Ratio) → IsEqual x u → IsEqual y v → IsEqual (plus x y) (plus u v)
plus_both x u y v h k = grind (arith, mul_above, add-*ℤ, part, at)

pub times_both : (x u y v : Ratio) → IsEqual x u → IsEqual y v → IsEqual (times x y) (times u v)
times_both x u y v h k = record {
  left = mul_above x.den y.den h.left k.left;
  right = mul_above u.den v.den h.right k.right;
  crosswise = grind (arith, *ℤ_assoc, *ℤ_right_comm)
      ∙ (λ i. h.crosswise i *ℤ k.crosswise i)
      ∙ (grind (arith, *ℤ_assoc, *ℤ_right_comm));
}

-- ---- laws

pub plus_assoc : (x y z : Ratio) → 0 < x.den → 0 < y.den → 0 < z.den
    → IsEqual (plus (plus x y) z) (plus x (plus y z))
plus_assoc x y z hx hy hz = grind (arith, add-*ℤ, over, same_parts, mul_above, +ℤ_assoc)

mul-plus : (a b c : ℤ) → a *ℤ (b +ℤ c) ≡ a *ℤ b +ℤ a *ℤ c
mul-plus a b c = *ℤ_comm a (b +ℤ c) ∙ add-*ℤ b c a ∙ (λ i. *ℤ_comm b a i +ℤ *ℤ_comm c a i)

pub times_plus : (x y z : Ratio) → 0 < x.den → 0 < y.den → 0 < z.den
    → IsEqual (times x (plus y z)) (plus (times x y) (times x z))
times_plus x y z hx hy hz = grind (arith, mul-plus, *ℤ_assoc, mul_above, add-*ℤ, over)

pub times_zero : (x : Ratio) → 0 < x.den → IsEqual (times x zero_ratio) zero_ratio
times_zero x hx = grind arith
