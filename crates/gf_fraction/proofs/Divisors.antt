-- Common divisors, and numbers that have none except 1.
use Rattle.std.proofs.Common.{◌%◌, ◌≡◌, ℕ, suc, zero, ◌+◌, ◌*◌, ◌/◌, ◌<◌, arith, ap, sym, ◌∙◌, refl}
use Rattle.std.proofs.Common.{subst}
use Rattle.std.specs.Int.{IsGcd, ◌∣◌}
use Rattle.std.proofs.lemmas.Nat.Gcd.{dvd_refl, dvd-zero, dvd_trans, IsGcd-from_zero}
use Rattle.std.proofs.lemmas.Nat.Gcd.{IsGcd-from_mod, same_from_IsGcd}
use Rattle.std.proofs.Math.Nat.{pos_of_dvd_of_pos, div-mul_cancel, mul-dvd-mul_right}
use Rattle.std.proofs.Math.Nat.{dvd_of_mul-dvd-mul_right, one-dvd, mod-add-div'}
use Rattle.std.proofs.Math.Nat.{add-mul-mod_self_right, mod-eq_of_lt, mul-lt-mul_of_pos_right}
use Rattle.std.proofs.Math.Nat.{mod-lt, dvd-mod_iff, dvd-mul_right}
use Rattle.gf_fraction.specs.inner.Steps.{HoldsCommon, IsLowest}

pub IsGcd-one_right : (n : ℕ) → IsGcd n 1 1
IsGcd-one_right n = (one-dvd n, dvd_refl 1, λ _ _ q. q)

pub IsGcd-one_left : (n : ℕ) → IsGcd 1 n 1
IsGcd-one_left n = (dvd_refl 1, one-dvd n, λ _ p _. p)

-- what is left of two numbers divided by their greatest common divisor has none but 1
pub IsGcd-div : (n d g : ℕ) → 0 < g → IsGcd n d g → IsGcd (n / g) (d / g) 1
IsGcd-div n d g above is = (
  one-dvd _,
  one-dvd _,
  λ e p q.
      let pg : e * g ∣ n =
      subst (λ x. e * g ∣ x) (div-mul_cancel _ is.0) (mul-dvd-mul_right _ p g) in
      let qg : e * g ∣ d =
      subst (λ x. e * g ∣ x) (div-mul_cancel _ is.1) (mul-dvd-mul_right _ q g) in
      let all : e * g ∣ 1 * g =
      subst (λ x. e * g ∣ x) (let o : g ≡ 1 * g = omega arith in o) (is.2 (e * g) pg qg) in
      dvd_of_mul-dvd-mul_right _ above all,
)

mod-mul : (a b k : ℕ) → 0 < b → 0 < k → a * k % (b * k) ≡ a % b * k
mod-mul a b k above some =
    let e : a * k ≡ a % b * k + a / b * (b * k) =
    omega (arith, ap (λ x. x * k) (mod-add-div' a b)) in
    let lt : a % b * k < b * k = mul-lt-mul_of_pos_right (mod-lt a above) some in
    ap (λ x. x % (b * k)) e ∙ add-mul-mod_self_right (a % b * k) (a / b) (b * k) ∙ mod-eq_of_lt lt

-- along Euclid's steps
IsGcd-mul_below : (n a b g k : ℕ) → b < n → 0 < k → IsGcd a b g → IsGcd (a * k) (b * k) (g * k)
IsGcd-mul_below zero a b g k h some is = absurd (omega arith)
IsGcd-mul_below (suc n) a zero g k h some is =
    let e : g ≡ a = same_from_IsGcd a 0 g a is (IsGcd-from_zero a 0 refl) in
    let z : 0 * k ≡ 0 = omega arith in
    subst (λ x. IsGcd (a * k) (0 * k) (x * k)) (sym e) (IsGcd-from_zero (a * k) (0 * k) z)
IsGcd-mul_below (suc n) a (suc b) g k h some is =
    let above : 0 < suc b = omega arith in
    let less : a % suc b < n = omega (arith, mod-lt a above) in
    let step = IsGcd-mul_below n (suc b) (a % suc b) g k less some (grind (arith, dvd-mod_iff)) in
    IsGcd-from_mod (a * k) (suc b * k) (g * k)
    (subst (λ x. IsGcd (suc b * k) x (g * k)) (sym (mod-mul a (suc b) k above some)) step)

pub IsGcd-mul : (a b g k : ℕ) → 0 < k → IsGcd a b g → IsGcd (a * k) (b * k) (g * k)
IsGcd-mul a b g k some is = IsGcd-mul_below (suc b) a b g k (omega arith) some is

-- Euclid's lemma
pub dvd_of_dvd-mul : (p q u : ℕ) → IsGcd p q 1 → p ∣ q * u → p ∣ u
dvd_of_dvd-mul p q zero is h = dvd-zero p
dvd_of_dvd-mul p q (suc u) is h =
    let some : 0 < suc u = omega arith in
    let one : 1 * suc u ≡ suc u = omega arith in
    subst (λ x. p ∣ x) one ((IsGcd-mul p q 1 (suc u) some is).2 p (dvd-mul_right p (suc u)) h)

-- a number that is coprime to two is coprime to their product
pub coprime-mul : (a b c : ℕ) → IsGcd a c 1 → IsGcd b c 1 → IsGcd (a * b) c 1
coprime-mul a b c ha hb = grind (arith, one-dvd, dvd_trans, dvd_of_dvd-mul)

-- divisors of coprime numbers are coprime
pub coprime_parts : (a b c d : ℕ) → IsGcd a b 1 → c ∣ a → d ∣ b → IsGcd c d 1
coprime_parts a b c d h p q = grind (arith, one-dvd, dvd_trans)

-- a denominator holds what it shares with any numerator
pub HoldsCommon-self : (n d : ℕ) → 0 < d → HoldsCommon n d d
HoldsCommon-self n d some = record { above_zero = some; part = dvd_refl d; all = λ _ _ q. q }

pub IsGcd-common : (n d k g : ℕ) → HoldsCommon n d k → IsGcd n k g → IsGcd n d g
IsGcd-common n d k g h is = (is.0, dvd_trans g is.1 h.part, λ c p q. is.2 c p (h.all c p q))

pub IsLowest-div : (n d k g : ℕ) → HoldsCommon n d k → IsGcd n k g → IsLowest n d (n / g) (d / g)
IsLowest-div n d k g h is =
    let whole = IsGcd-common n d k g h is in
    record {
      by = g;
      num = div-mul_cancel g whole.0;
      den = div-mul_cancel g whole.1;
      apart = IsGcd-div n d g (pos_of_dvd_of_pos is.1 h.above_zero) whole;
    }

-- nothing is shared if only 1 can be
pub IsLowest-apart : (n d k : ℕ) → HoldsCommon n d k → IsGcd n k 1 → IsLowest n d n d
IsLowest-apart n d k h is = grind (arith, IsGcd-common n d k 1 h is)

pub IsLowest-same : (n d k : ℕ) → HoldsCommon n d k → k ≡ 1 → IsLowest n d n d
IsLowest-same n d k h one = grind (arith, IsGcd-common n d k 1 h (rw one (IsGcd-one_right n)))

pub IsLowest-zero : (n d : ℕ) → n ≡ 0 → IsLowest n d 0 1
IsLowest-zero n d none =
    record { by = d; num = omega (arith, none); den = omega arith; apart = IsGcd-one_right 0 }
