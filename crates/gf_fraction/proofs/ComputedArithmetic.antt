-- Computed sums and products are those of the relations.
use Rattle.std.proofs.Common.{MatchOption, Option, arith, false, rules, subst, Bool, None, Some, ℕ}
use Rattle.std.proofs.Common.{refl, true, zero, pos, suc, sym, ◌%◌, ◌*◌, ◌/◌, ◌<◌, ◌^◌, ◌≡◌, ◌⊎◌, ℤ}
use Rattle.std.specs.Prelude.{if◌then◌else◌, unsigned_abs, int_lt, nat_lt, ◌&&◌, ◌*ℤ◌, ◌+ℤ◌}
use Rattle.std.specs.Int.{IsGcd}
use Rattle.std.proofs.lemmas.Bool.{ltb-false, and_from, ltb-true, lt-ltb}
use Rattle.std.proofs.lemmas.Nat.Gcd.{IsGcd-from_zero, IsGcd-from_mod}
use Rattle.std.proofs.Math.Nat.{mod-lt}
use Rattle.gf_fraction.specs.Ratio.{IsFraction, HasValue, IsWithin, Ratio}
use Rattle.gf_fraction.specs.Sum.{SumFits, IsSum}
use Rattle.gf_fraction.specs.Product.{ProductFits, IsProduct}
use Rattle.gf_fraction.specs.inner.Steps.{IsLowest, PartsFit}
use Rattle.gf_fraction.specs.inner.Computed.{gcd_within, product_of, is_within, lowest_of, sum_of}
use Rattle.gf_fraction.proofs.Divisors.{HoldsCommon-self, IsLowest-div}
use Rattle.gf_fraction.proofs.LowestTerms.{IsLowestRatio-fraction, reduced_fraction, IsLowestRatio}
use Rattle.gf_fraction.proofs.LowestTerms.{reduced_value, mul_pos_left, one_fraction, one_lowest}
use Rattle.gf_fraction.proofs.Integers.{unsigned_abs-signed}
use Rattle.gf_fraction.proofs.Products.{mul_above}
use Rattle.gf_fraction.proofs.Sums.{sum_den_above, sum_overflows, sum_value, sum_fits, Adding}

IsGcd-within : (n a b : ℕ) → b < n → IsGcd a b (gcd_within n a b)
unfolding gcd_within
IsGcd-within zero a b h = absurd (omega arith)
IsGcd-within (suc n) a zero h = IsGcd-from_zero a 0 refl
IsGcd-within (suc n) a (suc b) h =
    let above : 0 < suc b = omega arith in
    let less : a % suc b < n = omega (arith, mod-lt a above) in
    IsGcd-from_mod a (suc b) _ (IsGcd-within n (suc b) (a % suc b) less)

-- lowest terms
lowest_is : (z : ℤ) (d : ℕ) → 0 < d
    → IsLowest (unsigned_abs z) d (unsigned_abs z / gcd_within (suc d) (unsigned_abs z) d)
    (d / gcd_within (suc d) (unsigned_abs z) d)
lowest_is z d above =
    IsLowest-div (unsigned_abs z) d d (gcd_within (suc d) (unsigned_abs z) d)
    (HoldsCommon-self (unsigned_abs z) d above)
    (IsGcd-within (suc d) (unsigned_abs z) d (omega arith))

pub lowest_of-fraction : (z : ℤ) (d : ℕ) → 0 < d → d < 2 ^ 127 → IsWithin z
    → IsFraction (lowest_of z d)
unfolding lowest_of
lowest_of-fraction z d above within size =
    reduced_fraction z _ (unsigned_abs z) d _ _ above within size refl (lowest_is z d above) refl

pub lowest_of-value : (z : ℤ) (d : ℕ) → 0 < d → HasValue (lowest_of z d) z d
unfolding lowest_of
lowest_of-value z d above = reduced_value z _ (unsigned_abs z) d _ _ refl (lowest_is z d above) refl

-- sums
module _ (x y : Ratio) (hx : IsFraction x) (hy : IsFraction y) where
  abbrev g : ℕ
  g = gcd_within (suc y.den) x.den y.den

  abbrev p : ℕ
  p = y.den / g

  abbrev q : ℕ
  q = x.den / g

  abbrev left : ℤ
  left = x.num *ℤ pos p

  abbrev right : ℤ
  right = y.num *ℤ pos q

  adding : Adding x y x.num y.num x.den y.den g p q
  adding =
      search (rules, IsGcd-within)

  test : Bool
  test =
      nat_lt (x.den * p) (2 ^ 127) && is_within left && is_within right && is_within (left +ℤ right)

  test_parts : test ≡ true → PartsFit x.num y.num x.den p q
  unfolding test
  test_parts h = grind arith

  parts_test : PartsFit x.num y.num x.den p q → test ≡ true
  unfolding test
  parts_test h = grind (arith, and_from, lt-ltb)

  by_test : (b : Bool) → test ≡ b
      → MatchOption (if b then Some (lowest_of (left +ℤ right) (x.den * p)) else None)
      (¬ (SumFits x y)) (λ r. SumFits x y × IsFraction r × IsSum r x y)
  by_test true h =
      let parts = test_parts h in
      let above = sum_den_above x y _ _ _ _ _ _ _ adding (x.den * p) refl in (
        sum_fits x y _ _ _ _ _ _ _ adding parts,
        lowest_of-fraction (left +ℤ right) (x.den * p) above parts.den parts.sum,
        sum_value x y _ _ _ _ _ _ _ adding (lowest_of (left +ℤ right) (x.den * p)) _ _ refl refl
            (lowest_of-value (left +ℤ right) (x.den * p) above),
      )
  by_test false h = grind (arith, sum_overflows, adding, parts_test)

  pub sum_is_computed : MatchOption (sum_of x y) (¬ (SumFits x y))
      (λ r. SumFits x y × IsFraction r × IsSum r x y)
  unfolding sum_of test
  sum_is_computed = by_test test refl

-- products
pub lowest_of-lowest : (z : ℤ) (d : ℕ) → 0 < d → IsLowestRatio (lowest_of z d)
unfolding lowest_of
lowest_of-lowest z d above =
    let low = lowest_is z d above in
    let n = unsigned_abs z / gcd_within (suc d) (unsigned_abs z) d in
    let q = d / gcd_within (suc d) (unsigned_abs z) d in
    record {
      den_above_zero = mul_pos_left q low.by d low.den above;
      lowest = subst (λ k. IsGcd k q 1) (sym (unsigned_abs-signed (int_lt z (pos 0)) n)) low.apart;
    }

module _ (x y : Ratio) (hx : IsFraction x) (hy : IsFraction y) where
  abbrev product : Ratio
  product = lowest_of (x.num *ℤ y.num) (x.den * y.den)

  above : 0 < x.den * y.den
  above = mul_above x.den y.den hx.den_above_zero hy.den_above_zero

  value : IsProduct product x y
  value = lowest_of-value (x.num *ℤ y.num) (x.den * y.den) above

  lowest : IsLowestRatio product
  lowest = lowest_of-lowest (x.num *ℤ y.num) (x.den * y.den) above

  fits_product : ProductFits x y → IsFraction product
  fits_product fits = grind (arith, one_lowest, IsLowestRatio-fraction, lowest, above, value)

  pub product_is_computed : MatchOption (product_of x y) (¬ (ProductFits x y))
      (λ r. IsFraction r × IsProduct r x y)
  unfolding product_of
  product_is_computed = grind (arith, lowest, ltb-true, value, fits_product, ltb-false)

-- what adding and multiplying answer is what is computed
module _ (x y : Ratio) (hx : IsFraction x) (hy : IsFraction y) where
  dens_above : 0 < x.den * y.den
  dens_above = mul_above x.den y.den hx.den_above_zero hy.den_above_zero

  sum_cases : (o : Option Ratio) (r : Ratio)
      → MatchOption o (¬ (SumFits x y)) (λ s. SumFits x y × IsFraction s × IsSum s x y)
      → SumFits x y → IsFraction r → IsSum r x y → o ≡ Some r
  sum_cases o r h fits h' h'' = grind (arith, one_fraction, dens_above)

  pub sum_of-some : (r : Ratio) → SumFits x y → IsFraction r → IsSum r x y → sum_of x y ≡ Some r
  sum_of-some r fits hr is = sum_cases (sum_of x y) r (sum_is_computed x y hx hy) fits hr is

  no_sum : (o : Option Ratio)
      → MatchOption o (¬ (SumFits x y)) (λ s. SumFits x y × IsFraction s × IsSum s x y)
      → ¬ (SumFits x y) → o ≡ None
  no_sum o h none = grind arith

  pub sum_of-none : ¬ (SumFits x y) → sum_of x y ≡ None
  sum_of-none none = no_sum (sum_of x y) (sum_is_computed x y hx hy) none

  product_cases : (o : Option Ratio) (r : Ratio)
      → MatchOption o (¬ (ProductFits x y)) (λ s. IsFraction s × IsProduct s x y) → IsFraction r
      → IsProduct r x y → o ≡ Some r
  product_cases o r h h' h'' = grind (arith, value, one_fraction, dens_above)

  pub product_of-some : (r : Ratio) → IsFraction r → IsProduct r x y → product_of x y ≡ Some r
  product_of-some r hr is = product_cases (product_of x y) r (product_is_computed x y hx hy) hr is

  no_product : (o : Option Ratio)
      → MatchOption o (¬ (ProductFits x y)) (λ s. IsFraction s × IsProduct s x y)
      → ¬ (ProductFits x y) → o ≡ None
  no_product o h none = grind arith

  pub product_of-none : ¬ (ProductFits x y) → product_of x y ≡ None
  product_of-none none = no_product (product_of x y) (product_is_computed x y hx hy) none

-- so it is decided whether they fit
pub sum_or_overflow : (x y : Ratio) → IsFraction x → IsFraction y
    → ((r : Ratio) × SumFits x y × IsFraction r × IsSum r x y) ⊎ (¬ (SumFits x y))
sum_or_overflow x y hx hy = grind (arith, sum_is_computed x y hx hy)

pub product_or_overflow : (x y : Ratio) → IsFraction x → IsFraction y
    → ((r : Ratio) × IsFraction r × IsProduct r x y) ⊎ (¬ (ProductFits x y))
product_or_overflow x y hx hy = grind (arith, product_is_computed x y hx hy)
