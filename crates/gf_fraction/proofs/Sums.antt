-- Sums: when they fit, and what they share with their denominator.
use Rattle.std.proofs.Common.{◌≡◌, ℕ, ℤ, pos, negsuc, suc, ◌+◌, ◌-◌, ◌*◌, ◌/◌}
use Rattle.std.proofs.Common.{◌<◌, arith, ap, sym, ◌∙◌, subst, inl, inr}
use Rattle.std.specs.Prelude.{◌*ℤ◌, ◌+ℤ◌, unsigned_abs}
use Rattle.std.specs.Int.{IsGcd, ◌∣◌}
use Rattle.std.proofs.lemmas.Int.{ints, unsigned_abs-mul}
use Rattle.std.proofs.lemmas.Bool.{cases_lt}
use Rattle.std.proofs.lemmas.Nat.Gcd.{dvd_antisymm, dvd_trans, IsGcd-swap, dvd_refl}
use Rattle.std.proofs.Math.Nat.{one-dvd, pos_of_dvd_of_pos, div-mul_cancel, mul-div_cancel_left}
use Rattle.std.proofs.Math.Nat.{mul-div_cancel, dvd-mul_right, dvd-mul_left, mul-dvd-mul_right}
use Rattle.std.proofs.Math.Nat.{dvd-add, dvd-add_iff_right, le-mul_of_pos_right, div_self}
use Rattle.gf_fraction.specs.Ratio.{Ratio, IsFraction, IsWithin, HasValue}
use Rattle.gf_fraction.specs.Sum.{IsSum, IsLcm, SumFits}
use Rattle.gf_fraction.specs.inner.Steps.{HoldsCommon, PartsFit}
use Rattle.gf_fraction.proofs.Integers.{*ℤ_assoc, *ℤ_right_comm, add-*ℤ, *-cancel_right, *ℤ-one}
use Rattle.gf_fraction.proofs.LowestTerms.{mul_pos_left}
use Rattle.gf_fraction.proofs.Divisors.{IsGcd-div, dvd_of_dvd-mul}

-- the least common multiple, by way of the greatest common divisor
pub IsLcm-from_gcd : (b d g : ℕ) → 0 < g → IsGcd b d g → IsLcm b d (b * (d / g))
IsLcm-from_gcd b d g above is =
    let p = d / g in
    let q = b / g in
    let pg : p * g ≡ d = div-mul_cancel g is.1 in
    let qg : q * g ≡ b = div-mul_cancel g is.0 in
    let turned : q * d ≡ b * p = omega (arith, ap (λ x. q * x) pg, ap (λ x. x * p) qg) in
    record {
      left = dvd-mul_right b p;
      right = subst (λ x. d ∣ x) turned (dvd-mul_left d q);
      least = λ k bk dk.
          let u = k / b in
          let ub : u * b ≡ k = div-mul_cancel b bk in
          let v = k / d in
          let vd : v * d ≡ k = div-mul_cancel d dk in
          let same : v * p * g ≡ q * u * g =
          omega (arith, ap (λ x. v * x) pg, ap (λ x. u * x) qg, ub, vd) in
          let apart : IsGcd p q 1 = IsGcd-swap q p 1 (IsGcd-div b d g above is) in
          let cut : v * p ≡ q * u = *-cancel_right (v * p) (q * u) g above same in
          let pu : p ∣ u = dvd_of_dvd-mul p q u apart (subst (λ x. p ∣ x) cut (dvd-mul_left p v)) in
          let turn : p * b ≡ b * p = omega arith in
          subst (λ x. b * p ∣ x) ub (subst (λ x. x ∣ u * b) turn (mul-dvd-mul_right p pu b));
    }

-- the least common multiple over each of the two
quotients : (b d g : ℕ) → 0 < b → 0 < d → IsGcd b d g
    → (b * (d / g) / b ≡ d / g) × (b * (d / g) / d ≡ b / g)
quotients b d g bs ds is =
    let p = d / g in
    let q = b / g in
    let pg = ap (λ x. q * x) (div-mul_cancel g is.1) in
    let qg = ap (λ x. x * p) (div-mul_cancel g is.0) in
    let turned : b * p ≡ q * d = omega (arith, pg, qg) in
    (mul-div_cancel_left p bs, ap (λ x. x / d) turned ∙ mul-div_cancel q ds)

-- the sum fits exactly when its parts do, over the denominator that the code finds
fits_from_parts : (x y : Ratio) (g : ℕ) → IsFraction x → IsFraction y → IsGcd x.den y.den g
    → PartsFit x.num y.num x.den (y.den / g) (x.den / g) → SumFits x y
fits_from_parts x y g hx hy is h =
    grind (
      arith,
      quotients x.den y.den g hx.den_above_zero hy.den_above_zero is,
      IsLcm-from_gcd x.den y.den g (pos_of_dvd_of_pos is.1 hy.den_above_zero) is,
    )

parts_from_fits : (x y : Ratio) (g : ℕ) → IsFraction x → IsFraction y → IsGcd x.den y.den g
    → SumFits x y → PartsFit x.num y.num x.den (y.den / g) (x.den / g)
parts_from_fits x y g hx hy is h =
    let l = IsLcm-from_gcd x.den y.den g (pos_of_dvd_of_pos is.1 hy.den_above_zero) is in
    let e = dvd_antisymm (h.least.least _ l.left l.right) (l.least _ h.least.left h.least.right) in
    grind (arith, quotients x.den y.den g hx.den_above_zero hy.den_above_zero is, e)

-- what has the value of the sum over the least common denominator has the value of the sum
sum_from_parts : (r x y : Ratio) (g p q : ℕ) → p * g ≡ y.den → q * g ≡ x.den
    → HasValue r (x.num *ℤ pos p +ℤ y.num *ℤ pos q) (x.den * p) → IsSum r x y
sum_from_parts r x y g p q pg qg h =
    grind (
      arith,
      add-*ℤ (x.num *ℤ pos p) (y.num *ℤ pos q) (pos g),
      *ℤ_assoc x.num (pos p) (pos g),
      *ℤ_assoc y.num (pos q) (pos g),
      *ℤ_assoc r.num (pos (x.den * p)) (pos g),
      *ℤ_right_comm (x.num *ℤ pos p +ℤ y.num *ℤ pos q) (pos r.den) (pos g),
    )

-- a number that divides a sum and one of its parts divides the other
dvd_other_ℕ : (e m n : ℕ) → e ∣ (m - n) + (n - m) → e ∣ m → e ∣ n
dvd_other_ℕ e m n h hm =
    elim (cases_lt m n) [
      | inl lt ↦
          let gap : (m - n) + (n - m) ≡ n - m = omega arith in
          let back : m + (n - m) ≡ n = omega arith in
          subst (λ k. e ∣ k) back (dvd-add e hm (subst (λ k. e ∣ k) gap h))
      | inr ge ↦
          let gap : (m - n) + (n - m) ≡ m - n = omega arith in
          let back : (m - n) + n ≡ m = omega arith in
          (dvd-add_iff_right e (subst (λ k. e ∣ k) gap h)).1 (subst (λ k. e ∣ k) (sym back) hm)
    ]

dvd_other : (e : ℕ) (x y : ℤ) → e ∣ unsigned_abs (x +ℤ y) → e ∣ unsigned_abs x → e ∣ unsigned_abs y
dvd_other e (pos m) (pos n) h hx = (dvd-add_iff_right e hx).1 h
dvd_other e (negsuc m) (negsuc n) h hx =
    let sum : suc (suc (m + n)) ≡ suc m + suc n = omega arith in
    (dvd-add_iff_right e hx).1 (subst (λ k. e ∣ k) sum h)
dvd_other e (pos m) (negsuc n) h hx =
    let size : unsigned_abs (pos m +ℤ negsuc n) ≡ (m - suc n) + (suc n - m) = omega (arith, ints) in
    dvd_other_ℕ e m (suc n) (subst (λ k. e ∣ k) size h) hx
dvd_other e (negsuc m) (pos n) h hx =
    let size : unsigned_abs (negsuc m +ℤ pos n) ≡ (suc m - n) + (n - suc m) = omega (arith, ints) in
    dvd_other_ℕ e (suc m) n (subst (λ k. e ∣ k) size h) hx

-- the numerator a * p + c * q has no divisor in common with p
sum_apart : (a c : ℤ) (d g p q : ℕ) → IsGcd (unsigned_abs c) d 1 → p * g ≡ d → IsGcd p q 1
    → IsGcd (unsigned_abs (a *ℤ pos p +ℤ c *ℤ pos q)) p 1
sum_apart a c d g p q low pg apart = (
  one-dvd _,
  one-dvd _,
  λ e et ep.
      let left : e ∣ unsigned_abs (a *ℤ pos p) = subst (λ k. e ∣ k)
      (sym (unsigned_abs-mul a (pos p))) (dvd_trans e ep (dvd-mul_left p (unsigned_abs a))) in
      let right : e ∣ unsigned_abs c * q = subst (λ k. e ∣ k) (unsigned_abs-mul c (pos q))
      (dvd_other e (a *ℤ pos p) (c *ℤ pos q) et left) in
      let turn : unsigned_abs c * q ≡ q * unsigned_abs c = omega arith in
      let eq : IsGcd e q 1 = (one-dvd e, one-dvd q, λ k ke kq. apart.2 k (dvd_trans k ke ep) kq) in
      let ec : e ∣ unsigned_abs c =
      dvd_of_dvd-mul e q (unsigned_abs c) eq (subst (λ k. e ∣ k) turn right) in
      let ed : e ∣ d = subst (λ k. e ∣ k) pg (dvd_trans e ep (dvd-mul_right p g)) in
      low.2 e ec ed,
)

-- what a reduced sum shares with its denominator divides what the two denominators shared
common_from_gcd : (x y : Ratio) (g p q : ℕ)
    → IsFraction x → IsFraction y → 0 < g → p * g ≡ y.den → q * g ≡ x.den → IsGcd p q 1
    → HoldsCommon (unsigned_abs (x.num *ℤ pos p +ℤ y.num *ℤ pos q)) (x.den * p) g
common_from_gcd x y g p q hx hy above pg qg apart =
    let t = unsigned_abs (x.num *ℤ pos p +ℤ y.num *ℤ pos q) in
    let turned : y.num *ℤ pos q +ℤ x.num *ℤ pos p ≡ x.num *ℤ pos p +ℤ y.num *ℤ pos q =
    omega (arith, ints) in
    let by_p : IsGcd t p 1 = sum_apart x.num y.num y.den g p q hy.lowest pg apart in
    let by_q : IsGcd t q 1 = subst (λ z. IsGcd (unsigned_abs z) q 1) turned
    (sum_apart y.num x.num x.den g q p hx.lowest qg (IsGcd-swap p q 1 apart)) in
    let part : g ∣ x.den = subst (λ k. g ∣ k) qg (dvd-mul_left g q) in
    record {
      above_zero = above;
      part = dvd_trans g part (dvd-mul_right x.den p);
      all = λ e et em.
          let turn : x.den * p ≡ p * x.den = omega arith in
          let ep : IsGcd e p 1 =
          (one-dvd e, one-dvd p, λ k ke kp. by_p.2 k (dvd_trans k ke et) kp) in
          let eq : IsGcd e q 1 =
          (one-dvd e, one-dvd q, λ k ke kq. by_q.2 k (dvd_trans k ke et) kq) in
          let eb : e ∣ x.den = dvd_of_dvd-mul e p x.den ep (subst (λ k. e ∣ k) turn em) in
          dvd_of_dvd-mul e q g eq (subst (λ k. e ∣ k) (sym qg) eb);
    }

-- what the code knows as it adds: x is a / b and y is c / d, and p and q scale them to the least
-- common denominator
pub record Adding (x y : Ratio) (a c : ℤ) (b d g p q : ℕ) : Type 0 where
  pub left : IsFraction x
  pub right : IsFraction y
  pub left_num : a ≡ x.num
  pub right_num : c ≡ y.num
  pub left_den : b ≡ x.den
  pub right_den : d ≡ y.den
  pub gcd : IsGcd b d g
  pub left_by : p ≡ d / g
  pub right_by : q ≡ b / g

module _ (x y : Ratio) (a c : ℤ) (b d g p q : ℕ) (h : Adding x y a c b d g p q) where
  gcd_is : IsGcd x.den y.den g
  gcd_is = subst (λ (t : ℕ × ℕ). IsGcd t.0 t.1 g) (λ i. (h.left_den i, h.right_den i)) h.gcd

  p_is : p ≡ y.den / g
  p_is = h.left_by ∙ ap (λ k. k / g) h.right_den

  q_is : q ≡ x.den / g
  q_is = h.right_by ∙ ap (λ k. k / g) h.left_den

  p_times : p * g ≡ y.den
  p_times = ap (λ k. k * g) p_is ∙ div-mul_cancel g gcd_is.1

  q_times : q * g ≡ x.den
  q_times = ap (λ k. k * g) q_is ∙ div-mul_cancel g gcd_is.0

  gcd_above : 0 < g
  gcd_above = pos_of_dvd_of_pos gcd_is.1 h.right.den_above_zero

  p_above : 0 < p
  p_above = mul_pos_left p g y.den p_times h.right.den_above_zero

  apart : IsGcd p q 1
  apart = IsGcd-swap q p 1 (subst (λ (t : ℕ × ℕ). IsGcd t.0 t.1 1) (λ i. (sym q_is i, sym p_is i))
      (IsGcd-div x.den y.den g gcd_above gcd_is))

  pub sum_fits : PartsFit a c b p q → SumFits x y
  sum_fits parts = grind (arith, fits_from_parts, gcd_is, p_is, q_is)

  pub sum_overflows : ¬ (PartsFit a c b p q) → ¬ (SumFits x y)
  sum_overflows none fits = grind (arith, p_is, q_is, parts_from_fits, gcd_is)

  pub sum_value : (r : Ratio) (n : ℤ) (m : ℕ)
      → n ≡ a *ℤ pos p +ℤ c *ℤ pos q → m ≡ b * p → HasValue r n m → IsSum r x y
  sum_value r n m en em value = grind (arith, sum_from_parts, p_times, q_times)

  pub sum_common : (n : ℤ) (m : ℕ) → n ≡ a *ℤ pos p +ℤ c *ℤ pos q → m ≡ b * p
      → HoldsCommon (unsigned_abs n) m g
  sum_common n m en em =
      let F : (ℤ × ℕ) → Type 0 = λ t. HoldsCommon (unsigned_abs t.0) t.1 g in
      let num : x.num *ℤ pos p +ℤ y.num *ℤ pos q ≡ n =
      sym (en ∙ (λ i. h.left_num i *ℤ pos p +ℤ h.right_num i *ℤ pos q)) in
      let den : x.den * p ≡ m = sym (em ∙ ap (λ k. k * p) h.left_den) in
      subst F (λ i. (num i, den i))
      (common_from_gcd x y g p q h.left h.right gcd_above p_times q_times apart)

  pub sum_den_above : (m : ℕ) → m ≡ b * p → 0 < m
  sum_den_above m em = grind (arith, le-mul_of_pos_right, p_above)

-- over one denominator nothing is scaled
pub Adding-equal : (x y : Ratio) (a c : ℤ) (b d : ℕ) → IsFraction x → IsFraction y → a ≡ x.num
    → c ≡ y.num → b ≡ x.den → d ≡ y.den → b ≡ d → Adding x y a c b d b 1 1
Adding-equal x y a c b d hx hy ea ec eb ed e =
    let above : 0 < b = subst (λ k. 0 < k) (sym eb) hx.den_above_zero in
    let one : 1 ≡ b / b = sym (div_self above) in
    record {
      left = hx;
      right = hy;
      left_num = ea;
      right_num = ec;
      left_den = eb;
      right_den = ed;
      gcd = subst (λ k. IsGcd b k b) e (dvd_refl b, dvd_refl b, λ _ p _. p);
      left_by = one ∙ ap (λ k. k / b) e;
      right_by = one;
    }

pub equal_parts : (x y : Ratio) (a c n : ℤ) (b d : ℕ)
    → Adding x y a c b d b 1 1 → n ≡ a +ℤ c → IsWithin n → PartsFit a c b 1 1
equal_parts x y a c n b d h en within = grind arith

pub equal_value : (r x y : Ratio) (a c n : ℤ) (b d : ℕ)
    → Adding x y a c b d b 1 1 → n ≡ a +ℤ c → HasValue r n b → IsSum r x y
equal_value r x y a c n b d h en value =
    sum_value x y a c b d b 1 1 h r n b (en ∙ (λ i. sym (*ℤ-one a) i +ℤ sym (*ℤ-one c) i))
    (omega arith) value
