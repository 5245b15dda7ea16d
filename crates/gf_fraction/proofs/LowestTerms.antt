-- Ratios in lowest terms: when they are fractions, which value they have, and that no other ratio
-- has it.
use Rattle.std.proofs.Common.{arith, subst, Bool, refl, pos, sym, ◌*◌, ◌<◌, ◌^◌, ◌∙◌, ◌≡◌, ap, ℕ, ℤ}
use Rattle.std.specs.Prelude.{unsigned_abs, int_lt, ◌*ℤ◌}
use Rattle.std.specs.Int.{IsGcd, ◌∣◌}
use Rattle.std.proofs.lemmas.Int.{unsigned_abs-mul}
use Rattle.std.proofs.lemmas.Nat.Gcd.{dvd_antisymm, IsGcd-swap}
use Rattle.std.proofs.Math.Nat.{le-mul_of_pos_right, dvd-mul_left}
use Rattle.gf_fraction.specs.Ratio.{IsFraction, HasValue, IsWithin, signed, Ratio}
use Rattle.gf_fraction.specs.inner.Steps.{IsLowest}
use Rattle.gf_fraction.proofs.Divisors.{dvd_of_dvd-mul}
use Rattle.gf_fraction.proofs.Integers.{unsigned_abs-signed, *ℤ-cancel_right, *ℤ_right_comm}
use Rattle.gf_fraction.proofs.Integers.{signed-*}

-- a product above zero has parts above zero
pub mul_pos_left : (p q n : ℕ) → p * q ≡ n → 0 < n → 0 < p
mul_pos_left p q n e h = grind arith

pub mul_pos_right : (p q n : ℕ) → p * q ≡ n → 0 < n → 0 < q
mul_pos_right p q n e h = grind arith

-- a size and a denominator, reduced, with the sign: the fraction of that value
pub fraction_from : (s : Bool) (n d p q : ℕ) → 0 < d → d < 2 ^ 127 → n < 2 ^ 127 → IsLowest n d p q
    → IsFraction (record { num = signed s p; den = q })
fraction_from s n d p q some dw nw low =
    let above = mul_pos_right q low.by d low.den some in
    let same = unsigned_abs-signed s p in
    record {
      den_above_zero = mul_pos_left q low.by d low.den some;
      den_within = omega (arith, le-mul_of_pos_right q above);
      num_within = omega (arith, same, le-mul_of_pos_right p above);
      lowest = subst (λ k. IsGcd k q 1) (sym same) low.apart;
    }

pub value_from : (s : Bool) (n d p q : ℕ) → IsLowest n d p q
    → HasValue (record { num = signed s p; den = q }) (signed s n) d
value_from s n d p q low =
    let e : p * d ≡ n * q = omega (arith, ap (λ x. p * x) low.den, ap (λ x. x * q) low.num) in
    signed-* s p d ∙ ap (signed s) e ∙ sym (signed-* s n q)

-- the same of an integer
pub reduced_fraction : (z low : ℤ) (size d p q : ℕ) → 0 < d → d < 2 ^ 127 → IsWithin z
    → size ≡ unsigned_abs z → IsLowest size d p q → low ≡ signed (int_lt z (pos 0)) p
    → IsFraction (record { num = low; den = q })
reduced_fraction z low size d p q some dw nw e is l =
    subst (λ k. IsFraction (record { num = k; den = q })) (sym l)
    (fraction_from (int_lt z (pos 0)) size d p q some dw (omega arith) is)

pub reduced_value : (z low : ℤ) (size d p q : ℕ) → size ≡ unsigned_abs z → IsLowest size d p q
    → low ≡ signed (int_lt z (pos 0)) p → HasValue (record { num = low; den = q }) z d
reduced_value z low size d p q e is l =
    let s = int_lt z (pos 0) in
    let n : signed s size ≡ z = ap (signed s) e ∙ (grind arith) in
    let F : ℤ → ℤ → Type 0 = λ num value. HasValue (record { num = num; den = q }) value d in
    let value : F (signed s p) z = subst (F (signed s p)) n (value_from s size d p q is) in
    subst (λ num. F num z) (sym l) value

pub signed_value : (z : ℤ) (size d p q : ℕ) (r : Ratio) → size ≡ unsigned_abs z
    → IsLowest size d p q → r ≡ record { num = signed (int_lt z (pos 0)) p; den = q }
    → HasValue r z d
signed_value z size d p q r e low is = grind (arith, reduced_value z _ size d p q e low refl)

-- lowest terms, of any size
pub record IsLowestRatio (r : Ratio) : Type 0 where
  pub den_above_zero : 0 < r.den
  pub lowest : IsGcd (unsigned_abs r.num) r.den 1

-- two ratios in lowest terms of one value are one
pub same_from_value : (x y : Ratio)
    → IsLowestRatio x → IsLowestRatio y → x.num *ℤ pos y.den ≡ y.num *ℤ pos x.den → x ≡ y
same_from_value x y hx hy e =
    let abs : unsigned_abs x.num * y.den ≡ unsigned_abs y.num * x.den = grind (arith, unsigned_abs-mul) in
    let xd : x.den ∣ y.den =
    dvd_of_dvd-mul x.den (unsigned_abs x.num) y.den (IsGcd-swap _ _ _ hx.lowest)
    (subst (λ k. x.den ∣ k) (sym abs) (dvd-mul_left x.den (unsigned_abs y.num))) in
    let yd : y.den ∣ x.den =
    dvd_of_dvd-mul y.den (unsigned_abs y.num) x.den (IsGcd-swap _ _ _ hy.lowest)
    (subst (λ k. y.den ∣ k) abs (dvd-mul_left y.den (unsigned_abs x.num))) in
    let den : x.den ≡ y.den = dvd_antisymm xd yd in
    let num : x.num ≡ y.num =
    *ℤ-cancel_right x.num y.num y.den hy.den_above_zero (e ∙ ap (λ k. y.num *ℤ pos k) den) in
    let F : ℤ → ℕ → Ratio = λ n d. record { num = n; den = d } in
    ap (λ n. F n x.den) num ∙ ap (λ d. F y.num d) den

pub one_lowest : (x y : Ratio) (n : ℤ) (d : ℕ)
    → IsLowestRatio x → IsLowestRatio y → 0 < d → HasValue x n d → HasValue y n d → x ≡ y
one_lowest x y n d hx hy above vx vy =
    let grown : (x.num *ℤ pos y.den) *ℤ pos d ≡ (y.num *ℤ pos x.den) *ℤ pos d = grind (arith, *ℤ_right_comm) in
    same_from_value x y hx hy
    (*ℤ-cancel_right (x.num *ℤ pos y.den) (y.num *ℤ pos x.den) d above grown)

pub IsLowestRatio-fraction : (r : Ratio) → IsFraction r → IsLowestRatio r
IsLowestRatio-fraction r h = record { den_above_zero = h.den_above_zero; lowest = h.lowest }

-- a value over a positive denominator has one fraction
pub one_fraction : (r s : Ratio) (n : ℤ) (d : ℕ)
    → IsFraction r → IsFraction s → 0 < d → HasValue r n d → HasValue s n d → r ≡ s
one_fraction r s n d hr hs above vr vs = grind (arith, one_lowest, IsLowestRatio-fraction)
