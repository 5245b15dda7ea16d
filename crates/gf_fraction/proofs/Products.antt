-- Products: their value, and when they fit.
use Rattle.std.proofs.Common.{rules}
use Rattle.std.proofs.Common.{◌≡◌, ℕ, ℤ, Bool, pos, not, ◌*◌, ◌^◌, ◌<◌, arith, ap, sym, ◌∙◌, subst}
use Rattle.std.specs.Prelude.{◌*ℤ◌, unsigned_abs, int_lt}
use Rattle.std.specs.Int.{IsGcd, ◌∣◌}
use Rattle.std.proofs.lemmas.Nat.Gcd.{IsGcd-swap}
use Rattle.std.proofs.Math.Nat.{dvd-mul_right}
use mathlib.Core.Bool.{beq}
use Rattle.gf_fraction.specs.Ratio.{Ratio, IsFraction, signed}
use Rattle.gf_fraction.specs.Product.{IsProduct, ProductFits}
use Rattle.gf_fraction.specs.inner.Steps.{IsLowest}
use Rattle.gf_fraction.proofs.Divisors.{coprime-mul, coprime_parts}
use Rattle.gf_fraction.proofs.Integers.{unsigned_abs-signed, signed-unsigned_abs, signed-*}
use Rattle.gf_fraction.proofs.LowestTerms.{IsLowestRatio, IsLowestRatio-fraction, one_lowest}
use Rattle.gf_fraction.proofs.LowestTerms.{mul_pos_left}

pub mul_above : (m n : ℕ) → 0 < m → 0 < n → 0 < m * n
mul_above m n h h' = grind arith

-- what the code knows as it multiplies: each numerator is reduced against the other denominator
pub record Multiplying (x y : Ratio) (m n : ℕ) (b d p q r s : ℕ) : Type 0 where
  pub left : IsFraction x
  pub right : IsFraction y
  pub left_size : m ≡ unsigned_abs x.num
  pub right_size : n ≡ unsigned_abs y.num
  pub left_den : b ≡ x.den
  pub right_den : d ≡ y.den
  pub first : IsLowest m d p q
  pub second : IsLowest n b r s

module _ (x y : Ratio) (m n : ℕ) (b d p q r s : ℕ) (h : Multiplying x y m n b d p q r s) where
  first : IsLowest (unsigned_abs x.num) y.den p q
  first = subst (λ (t : ℕ × ℕ). IsLowest t.0 t.1 p q) (λ i. (h.left_size i, h.right_den i)) h.first

  second : IsLowest (unsigned_abs y.num) x.den r s
  second = grind arith

  part : (k by whole : ℕ) → k * by ≡ whole → k ∣ whole
  part k by whole e = subst (λ w. k ∣ w) e (dvd-mul_right k by)

  -- no common divisor is left across, and none was there before
  apart : IsGcd (p * r) (s * q) 1
  apart =
      let ps : IsGcd p s 1 = coprime_parts _ _ p s h.left.lowest (part p first.by _ first.num)
      (part s second.by _ second.den) in
      let rq : IsGcd r q 1 = coprime_parts _ _ r q h.right.lowest (part r second.by _ second.num)
      (part q first.by _ first.den) in
      let over_s : IsGcd s (p * r) 1 = IsGcd-swap _ _ _ (coprime-mul p r s ps second.apart) in
      let over_q : IsGcd q (p * r) 1 = IsGcd-swap _ _ _ (coprime-mul p r q first.apart rq) in
      IsGcd-swap _ _ _ (coprime-mul s q (p * r) over_s over_q)

  den_above : 0 < s * q
  den_above = grind (arith, mul_above, mul_pos_left, second, first)

  abbrev sign : Bool
  sign = not (beq (int_lt x.num (pos 0)) (int_lt y.num (pos 0)))

  abbrev product : Ratio
  product = record { num = signed sign (p * r); den = s * q }

  is_product : IsProduct product x y
  is_product =
      let g = first.by in
      let k = second.by in
      let regroup : p * r * ((s * k) * (q * g)) ≡ (p * g) * (r * k) * (s * q) = omega arith in
      let sizes : p * r * (x.den * y.den) ≡ unsigned_abs x.num * unsigned_abs y.num * (s * q) = grind arith in
      let size = unsigned_abs x.num * unsigned_abs y.num in
      let num : signed sign size ≡ x.num *ℤ y.num =
      sym (grind arith)
      ∙ (λ i. signed-unsigned_abs x.num i *ℤ signed-unsigned_abs y.num i) in
      signed-* sign (p * r) (x.den * y.den)
      ∙ ap (signed sign) sizes
      ∙ sym (signed-* sign size (s * q))
      ∙ ap (λ z. z *ℤ pos (s * q)) num

  is_lowest : IsLowestRatio product
  is_lowest =
      search (rules, den_above, unsigned_abs-signed, apart)

  -- the product of the reduced parts is the product
  pub product_fraction : (num : ℤ) (den : ℕ) → num ≡ signed sign (p * r) → den ≡ s * q
      → p * r < 2 ^ 127 → s * q < 2 ^ 127 → IsFraction (record { num = num; den = den })
  product_fraction num den en ed wn wd =
      let F : (ℤ × ℕ) → Type 0 = λ t. IsFraction (record { num = t.0; den = t.1 }) in
      subst F (λ i. (sym en i, sym ed i)) (record {
        den_above_zero = grind (arith, mul_above, mul_pos_left, second, first);
        den_within = wd;
        num_within = subst (λ k. k < 2 ^ 127) (sym (unsigned_abs-signed sign (p * r))) wn;
        lowest = is_lowest.lowest;
      })

  pub product_value : (num : ℤ) (den : ℕ) → num ≡ signed sign (p * r) → den ≡ s * q
      → IsProduct (record { num = num; den = den }) x y
  product_value num den en ed = grind (arith, is_product)

  -- any fraction of the product's value is the product of the reduced parts, so that is within the
  -- bounds
  pub product_within : ProductFits x y → (p * r < 2 ^ 127) × (s * q < 2 ^ 127)
  product_within fits =
      let above = mul_above x.den y.den h.left.den_above_zero h.right.den_above_zero in
      let same : fits.product ≡ product =
      one_lowest fits.product product (x.num *ℤ y.num) (x.den * y.den)
      (IsLowestRatio-fraction fits.product fits.fraction) is_lowest above fits.value is_product in
      let is : IsFraction product = subst IsFraction same fits.fraction in
      (subst (λ k. k < 2 ^ 127) (unsigned_abs-signed sign (p * r)) is.num_within, is.den_within)
