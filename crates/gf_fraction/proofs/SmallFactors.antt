-- Numbers without small primes that they have in common.
use Rattle.std.proofs.Common.{◌≡◌, ℕ, zero, suc, ◌+◌, ◌-◌, ◌*◌, ◌/◌, ◌%◌, ◌^◌, ◌<◌, ◌≤◌, min}
use Rattle.std.proofs.Common.{arith, lit<, ap, refl, sym, ◌∙◌, subst}
use Rattle.std.specs.Int.{IsGcd, ◌∣◌, trailing_zeros, w64}
use Rattle.std.proofs.lemmas.Nat.{mul-pow, pow-add, pow_pos}
use Rattle.std.proofs.lemmas.Nat.Bits.{bit_at-trailing_zeros}
use Rattle.std.proofs.lemmas.Nat.Gcd.{dvd_refl, dvd_trans, dvd_of_mod-eq-zero, IsGcd-from_mod}
use Rattle.std.proofs.Math.Nat.{div-mul_cancel, dvd-mul_right, dvd-mul_left, mul-dvd-mul_right}
use Rattle.std.proofs.Math.Nat.{dvd_of_mul-dvd-mul_right, pow-succ'}
use Rattle.gf_fraction.specs.inner.Steps.{HoldsCommon, IsLowest, IsPrime, IsReduced}
use Rattle.gf_fraction.proofs.Divisors.{IsGcd-one_right, IsLowest-same, HoldsCommon-self}
use Rattle.gf_fraction.proofs.Divisors.{coprime_parts, dvd_of_dvd-mul}
use Rattle.gf_fraction.proofs.OddParts.{coprime-pow, coprime_two, low_bits, odd_part}
use Rattle.gf_fraction.proofs.PowersOfTen.{pow_above_zero}

three_and_less : (r : ℕ) → 0 < r → r < 3 → IsGcd 3 r 1
three_and_less zero above below = absurd (omega arith)
three_and_less (suc zero) above below = IsGcd-one_right 3
three_and_less (suc (suc zero)) above below = IsGcd-from_mod 3 2 1 (IsGcd-one_right 2)
three_and_less (suc (suc (suc r))) above below = absurd (omega arith)

five_and_less : (r : ℕ) → 0 < r → r < 5 → IsGcd 5 r 1
five_and_less zero above below = absurd (omega arith)
five_and_less (suc zero) above below = IsGcd-one_right 5
five_and_less (suc (suc zero)) above below = IsGcd-from_mod 5 2 1 (IsGcd-one_right 2)
five_and_less (suc (suc (suc zero))) above below =
    IsGcd-from_mod 5 3 1 (IsGcd-from_mod 3 2 1 (IsGcd-one_right 2))
five_and_less (suc (suc (suc (suc zero)))) above below = IsGcd-from_mod 5 4 1 (IsGcd-one_right 4)
five_and_less (suc (suc (suc (suc (suc r))))) above below = absurd (omega arith)

pub prime_three : IsPrime 3
prime_three = record {
  above_one = lit< tt;
  apart = λ n h. IsGcd-from_mod n 3 1 (three_and_less (n % 3) h (omega arith));
}

pub prime_five : IsPrime 5
prime_five = record {
  above_one = lit< tt;
  apart = λ n h. IsGcd-from_mod n 5 1 (five_and_less (n % 5) h (omega arith));
}

pub ruleset small_primes = (prime_three, prime_five)

-- ---- factors of a number

pub one_more : (f left count number : ℕ) → 1 < f → 0 < left → left % f ≡ 0
    → left * f ^ count ≡ number → count + left ≤ number
    → (0 < left / f) × (left / f * f ^ (count + 1) ≡ number) × (count + 1 + left / f ≤ number)
one_more f left count number above some whole is few =
    let left_is : left / f * f ≡ left = div-mul_cancel f (dvd_of_mod-eq-zero f whole) in
    let less : 0 < left / f = grind arith in
    let twice : left / f * 2 ≤ left / f * f = grind arith in (
      less,
      ap (λ e. left / f * f ^ e) (let e : count + 1 ≡ suc count = omega arith in e)
          ∙ ap (λ x. left / f * x) (pow-succ' f count)
          ∙ (let e : left / f * (f * f ^ count) ≡ left / f * f * f ^ count = omega arith in e)
          ∙ ap (λ x. x * f ^ count) left_is ∙ is,
      omega (arith, less, twice, left_is, few),
    )

pub factors_of : (n t threes left fives rest : ℕ) → 0 < n → n < 2 ^ 64 → t ≡ trailing_zeros w64 n
    → left * 3 ^ threes ≡ n / 2 ^ t → rest * 5 ^ fives ≡ left
    → rest * 5 ^ fives * 3 ^ threes * 2 ^ t ≡ n
factors_of n t threes left fives rest some fits is by_three by_five =
    grind (arith, odd_part n t some fits is)

pub odd_above : (n t : ℕ) → 0 < n → n < 2 ^ 64 → t ≡ trailing_zeros w64 n → 0 < n / 2 ^ t
odd_above n t some fits is = let odd = (odd_part n t some fits is).odd in omega (arith, odd)

pub factors_of_ten : (n d p fives : ℕ) → d ≡ 10 ^ p → fives ≡ p
    → HoldsCommon n d (1 * 5 ^ fives * 3 ^ 0 * 2 ^ p)
factors_of_ten n d p fives is same =
    grind (arith, mul-pow 5 2 p, HoldsCommon-self n (10 ^ p) (pow_above_zero p))

-- ---- dividing them out

-- a factor of all three numbers
held_both : (p q k f : ℕ) → 0 < f → HoldsCommon (p * f) (q * f) (k * f) → HoldsCommon p q k
held_both p q k f some h = record {
  above_zero = grind arith;
  part = dvd_of_mul-dvd-mul_right _ some h.part;
  all =
      λ c left right. dvd_of_mul-dvd-mul_right _ some
      (h.all (c * f) (mul-dvd-mul_right _ left f) (mul-dvd-mul_right _ right f));
}

-- a factor of k that has no common divisor with p except 1
pub held_apart : (p q k m : ℕ) → IsGcd p m 1 → HoldsCommon p q (k * m) → HoldsCommon p q k
held_apart p q k m apart h = record {
  above_zero = grind arith;
  part = dvd_trans k (dvd-mul_right k m) h.part;
  all =
      λ c left right.
      let turned : k * m ≡ m * k = omega arith in
      dvd_of_dvd-mul c m k (coprime_parts p m c m apart left (dvd_refl m))
      (subst (λ x. c ∣ x) turned (h.all c left right));
}

grown : (a l p m n : ℕ) → a * l ≡ p → p * m ≡ n → a * (l * m) ≡ n
grown a l p m n e f =
    (let t : a * (l * m) ≡ a * l * m = omega arith in t) ∙ ap (λ x. x * m) e ∙ f

pub reduced_self : (n d k : ℕ) → HoldsCommon n d k → IsReduced n d n d k
reduced_self n d k h = record { by = 1; num = omega arith; den = omega arith; held = h }

divided_by : (f n d p q k : ℕ) → 0 < f → p % f ≡ 0 → IsReduced n d p q (k * f)
    → IsReduced n d (p / f) (q / f) k
divided_by f n d p q k some whole h =
    let p_is : p / f * f ≡ p = div-mul_cancel f (dvd_of_mod-eq-zero f whole) in
    let q_is : q / f * f ≡ q = div-mul_cancel f (dvd_trans f (dvd-mul_left f k) h.held.part) in
    record {
      by = f * h.by;
      num = grown (p / f) f p h.by n p_is h.num;
      den = grown (q / f) f q h.by d q_is h.den;
      held = held_both (p / f) (q / f) k f some
          (subst (λ x. HoldsCommon x (q / f * f) (k * f)) (sym p_is)
          (subst (λ x. HoldsCommon p x (k * f)) (sym q_is) h.held));
    }

pub left_apart : (n d p q k m : ℕ) → IsGcd p m 1 → IsReduced n d p q (k * m) → IsReduced n d p q k
left_apart n d p q k m apart h = grind (arith, held_apart p q k m apart h.held)

-- a prime, of which this many may be left in both
module _ (f n d p q k left : ℕ) (prime : IsPrime f) (h : IsReduced n d p q (k * f ^ left)) where
  pub divided : 0 < left → p % f ≡ 0 → IsReduced n d (p / f) (q / f) (k * f ^ (left - 1))
  divided some whole =
      let above = prime.above_one in
      let one : left ≡ suc (left - 1) = omega (arith, some) in
      let power : f ^ left ≡ f * f ^ (left - 1) =
      ap (λ e. f ^ e) one ∙ pow-succ' f (left - 1) in
      let e : k * f ^ left ≡ k * f ^ (left - 1) * f = omega (arith, ap (λ x. k * x) power) in
      divided_by f n d p q (k * f ^ (left - 1)) (omega (arith, above)) whole
      (subst (IsReduced n d p q) e h)

  pub no_more : 0 < p % f → IsReduced n d p q k
  no_more odd = left_apart n d p q k (f ^ left) (coprime-pow p f left (prime.apart p odd)) h

odd_apart : (n t count more : ℕ) → 0 < n → n < 2 ^ 64 → t + more ≡ count
    → t ≡ min (trailing_zeros w64 n) count → IsGcd (n / 2 ^ t) (2 ^ more) 1
odd_apart n t count zero some fits parts is = IsGcd-one_right (n / 2 ^ t)
odd_apart n t count (suc k) some fits parts is =
    let same : t ≡ trailing_zeros w64 n = omega (arith, parts, is) in
    coprime-pow (n / 2 ^ t) 2 (suc k) (coprime_two (n / 2 ^ t) (odd_part n t some fits same).odd)

pub divided_twos : (n d k count twos : ℕ) → 0 < n → n < 2 ^ 64
    → twos ≡ min (trailing_zeros w64 n) count → HoldsCommon n d (k * 2 ^ count)
    → IsReduced n d (n / 2 ^ twos) (d / 2 ^ twos) k
divided_twos n d k count twos some fits is h =
    let more = count - twos in
    let parts : twos + more ≡ count = omega (arith, is) in
    let zeros = (bit_at-trailing_zeros w64 n some fits).2 in
    let e : k * 2 ^ count ≡ k * 2 ^ more * 2 ^ twos = grind (arith, pow-add) in
    left_apart n d _ _ k (2 ^ more) (odd_apart n twos count more some fits parts is)
    (divided_by (2 ^ twos) n d n d (k * 2 ^ more) (pow_pos twos)
    (low_bits n twos (λ i b. zeros i (omega (arith, b, is))))
    (reduced_self n d _ (subst (HoldsCommon n d) e h)))

-- lowest terms of what is left are lowest terms
pub lowest_after : (n d p q k a b : ℕ) → IsReduced n d p q k → IsLowest p q a b → IsLowest n d a b
lowest_after n d p q k a b h low =
    grind (arith, grown a low.by p h.by n low.num h.num, grown b low.by q h.by d low.den h.den)

-- a power of two holds what they have in common
pub twos_alone : (n d k t p q : ℕ) → 0 < k → k < 2 ^ 64 → t ≡ trailing_zeros w64 k
    → k / 2 ^ t ≡ 1 → HoldsCommon n d k
    → ((j : ℕ) → HoldsCommon n d (j * 2 ^ t) → IsReduced n d p q j) → IsLowest n d p q
twos_alone n d k t p q some fits is one h divided =
    let whole : k ≡ 1 * 2 ^ t =
    sym (odd_part k t some fits is).parts ∙ ap (λ m. m * 2 ^ t) one in
    let left = divided 1 (subst (HoldsCommon n d) whole h) in
    lowest_after n d p q 1 p q left (IsLowest-same p q 1 left.held refl)
