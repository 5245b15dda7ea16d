-- Numbers without their factors of two, and the greatest common divisor by steps that leave these
-- out.
use Rattle.std.proofs.Common.{◌≡◌, ℕ, zero, suc, ◌+◌, ◌-◌, ◌*◌, ◌/◌, ◌%◌, ◌^◌}
use Rattle.std.proofs.Common.{◌<◌, ◌≤◌, min, arith, ap, sym, ◌∙◌, subst, inl, inr}
use Rattle.std.specs.Prelude.{◌⊎◌}
use Rattle.std.proofs.lemmas.Bool.{cases_lt}
use Rattle.std.specs.Int.{IsGcd, ◌∣◌, abs_diff, trailing_zeros, bit_at, w64, w128}
use Rattle.std.proofs.lemmas.Nat.{pow-add, pow_pos, mod-pow-add, shr_high, shr_split}
use Rattle.std.proofs.lemmas.Nat.Bits.{bit_at-trailing_zeros}
use Rattle.std.proofs.lemmas.Nat.Gcd.{dvd_refl, dvd_trans, le_of_dvd}
use Rattle.std.proofs.lemmas.Nat.Gcd.{IsGcd-from_mod, IsGcd-from_sub, IsGcd-swap}
use Rattle.std.proofs.Math.Nat.{dvd-mul_right, mod-eq_of_lt, mod-lt, pow-succ', pow-zero}
use Rattle.std.proofs.Math.Pow.{mod-mod-pow}
use Rattle.gf_fraction.proofs.Divisors.{IsGcd-one_right, IsGcd-mul, coprime-mul}
use Rattle.gf_fraction.proofs.Divisors.{coprime_parts, dvd_of_dvd-mul}

-- a number that is coprime to b is coprime to its powers
pub coprime-pow : (n b k : ℕ) → IsGcd n b 1 → IsGcd n (b ^ k) 1
coprime-pow n b zero h = subst (λ x. IsGcd n x 1) (sym (pow-zero b)) (IsGcd-one_right n)
coprime-pow n b (suc k) h =
    subst (λ x. IsGcd n x 1) (sym (pow-succ' b k)) (IsGcd-swap (b * b ^ k) n 1
    (coprime-mul b (b ^ k) n (IsGcd-swap n b 1 h) (IsGcd-swap n (b ^ k) 1 (coprime-pow n b k h))))

pub coprime_two : (n : ℕ) → n % 2 ≡ 1 → IsGcd n 2 1
coprime_two n h = IsGcd-from_mod n 2 1 (subst (λ r. IsGcd 2 r 1) (sym h) (IsGcd-one_right 2))

-- low bits that are 0
pub low_bits : (n t : ℕ) → ((i : ℕ) → i < t → bit_at n i ≡ 0) → n % 2 ^ t ≡ 0
low_bits n zero h = omega arith
low_bits n (suc t) h =
    let one : n / 2 ^ t % 2 ^ 1 ≡ 0 = h t (omega arith) in
    let below : n % 2 ^ t ≡ 0 = low_bits n t (λ j b. h j (omega (arith, b))) in
    let e : n / 2 ^ t % 2 ^ 1 * 2 ^ t ≡ 0 =
    ap (λ x. x * 2 ^ t) one ∙ (let z : 0 * 2 ^ t ≡ 0 = omega arith in z) in
    ap (λ k. n % 2 ^ k) (let k : suc t ≡ 1 + t = omega arith in k)
    ∙ mod-pow-add n 1 t
    ∙ (let z : n / 2 ^ t % 2 ^ 1 * 2 ^ t + n % 2 ^ t ≡ 0 = omega (arith, below, e) in z)

-- a number without its twos
pub record IsOddPart (n t m : ℕ) : Type 0 where
  pub odd : m % 2 ≡ 1
  pub parts : m * 2 ^ t ≡ n

by_lowest : (n t : ℕ) → bit_at n t ≡ 1 → ((i : ℕ) → i < t → bit_at n i ≡ 0)
    → IsOddPart n t (n / 2 ^ t)
by_lowest n t one zeros = grind (arith, shr_split, low_bits)

pub odd_part : (n t : ℕ) → 0 < n → n < 2 ^ 64 → t ≡ trailing_zeros w64 n → IsOddPart n t (n / 2 ^ t)
odd_part n t some fits is =
    let z = bit_at-trailing_zeros w64 n some fits in
    subst (λ k. IsOddPart n k (n / 2 ^ k)) (sym is) (by_lowest n _ z.1 z.2)

pub wide_odd_part : (n t : ℕ) → 0 < n → n < 2 ^ 128 → t ≡ trailing_zeros w128 n
    → IsOddPart n t (n / 2 ^ t)
wide_odd_part n t some fits is =
    let z = bit_at-trailing_zeros w128 n some fits in
    subst (λ k. IsOddPart n k (n / 2 ^ k)) (sym is) (by_lowest n _ z.1 z.2)

-- a digit among the lowest 64
low_bit : (n i : ℕ) → i < 64 → bit_at (n % 2 ^ 64) i ≡ bit_at n i
low_bit n i less =
    let j = 63 - i in
    let few : n % 2 ^ (j + 1 + i) / 2 ^ i ≡ n / 2 ^ i % 2 ^ (j + 1) =
    ap (λ x. x / 2 ^ i) (mod-pow-add n (j + 1) i)
    ∙ shr_high (n / 2 ^ i % 2 ^ (j + 1)) i (n % 2 ^ i) (mod-lt n (pow_pos i)) in
    let whole : 64 ≡ j + 1 + i = omega (arith, less) in
    ap (λ k. n % 2 ^ k / 2 ^ i % 2 ^ 1) whole
    ∙ ap (λ x. x % 2 ^ 1) few ∙ mod-mod-pow (n / 2 ^ i) j 1

pub by_low_word : (n t : ℕ) → 0 < n % 2 ^ 64 → t ≡ trailing_zeros w64 (n % 2 ^ 64)
    → IsOddPart n t (n / 2 ^ t)
by_low_word n t some is =
    let z = bit_at-trailing_zeros w64 (n % 2 ^ 64) some (mod-lt n (pow_pos 64)) in
    subst (λ k. IsOddPart n k (n / 2 ^ k)) (sym is)
    (by_lowest n _ (sym (low_bit n _ z.0) ∙ z.1)
    (λ i b. sym (low_bit n i (omega (arith, b, z.0))) ∙ z.2 i b))

-- a factor that has no common divisor with one of two numbers changes nothing in the other
IsGcd-factor : (m n k g : ℕ) → IsGcd m k 1 → IsGcd m n g → IsGcd m (n * k) g
IsGcd-factor m n k g apart is = (
  is.0,
  dvd_trans g is.1 (dvd-mul_right n k),
  λ e p q.
      let turned : n * k ≡ k * n = omega arith in
      is.2 e p (dvd_of_dvd-mul e k n (coprime_parts m k e k apart p (dvd_refl k))
      (subst (λ x. e ∣ x) turned q)),
)

IsGcd-twos : (m n t g : ℕ) → m % 2 ≡ 1 → IsGcd m n g → IsGcd m (n * 2 ^ t) g
IsGcd-twos m n t g odd is = IsGcd-factor m n (2 ^ t) g (coprime-pow m 2 t (coprime_two m odd)) is

-- a step from odd numbers to the less of them and the odd part of what they are apart
pub odd_step : (x y t m least g : ℕ) → x % 2 ≡ 1 → y % 2 ≡ 1 → m * 2 ^ t ≡ abs_diff x y
    → least ≡ min x y → IsGcd least m g → IsGcd x y g
odd_step x y t m least g odd_x odd_y part least_is is = by_order (cases_lt x y)
  where
    by_order : (x < y) ⊎ (y ≤ x) → IsGcd x y g
    by_order (inl less) =
        let low : least ≡ x = omega (arith, least_is, less) in
        let apart : m * 2 ^ t ≡ y - x = omega (arith, part, less) in
        let step : IsGcd x (m * 2 ^ t) g =
        IsGcd-twos x m t g odd_x (subst (λ k. IsGcd k m g) low is) in
        let back : IsGcd (y - x) x g =
        IsGcd-swap x (y - x) g (subst (λ k. IsGcd x k g) apart step) in
        IsGcd-swap y x g (IsGcd-from_sub y x g (omega (arith, less)) back)
    by_order (inr most) =
        let low : least ≡ y = omega (arith, least_is, most) in
        let apart : m * 2 ^ t ≡ x - y = omega (arith, part, most) in
        let step : IsGcd y (m * 2 ^ t) g =
        IsGcd-twos y m t g odd_y (subst (λ k. IsGcd k m g) low is) in
        IsGcd-from_sub x y g most (IsGcd-swap y (x - y) g (subst (λ k. IsGcd y k g) apart step))

pub least_odd : (x y least : ℕ) → x % 2 ≡ 1 → y % 2 ≡ 1 → least ≡ min x y → least % 2 ≡ 1
least_odd x y least odd_x odd_y is = grind arith

-- odd numbers, whose greatest common divisor is that of two others
abbrev pub LeadTo : ℕ → ℕ → ℕ → ℕ → Type 0
LeadTo a b x y = (x % 2 ≡ 1) × (y % 2 ≡ 1) × ((g : ℕ) → IsGcd x y g → IsGcd a b g)

-- a step leads from them to less
pub led_on : (a b x y apart t m least : ℕ) → LeadTo a b x y → IsOddPart apart t m
    → apart ≡ abs_diff x y → least ≡ min x y → LeadTo a b least m
led_on a b x y apart t m least h part is least_is = (
  least_odd x y least h.0 h.1 least_is,
  part.odd,
  λ g common. h.2 g (odd_step x y t m least g h.0 h.1 (part.parts ∙ is) least_is common),
)

-- odd parts with the twos that both have
with_twos : (x y s k g : ℕ) → x % 2 ≡ 1 → IsGcd x y g
    → IsGcd (x * 2 ^ s) (y * 2 ^ (s + k)) (g * 2 ^ s)
with_twos x y s k g odd is =
    let parts : y * 2 ^ k * 2 ^ s ≡ y * 2 ^ (s + k) =
    (let e : y * 2 ^ k * 2 ^ s ≡ y * (2 ^ s * 2 ^ k) = omega arith in e)
    ∙ ap (λ n. y * n) (sym (pow-add 2 s k)) in
    subst (λ n. IsGcd (x * 2 ^ s) n (g * 2 ^ s)) parts
    (IsGcd-mul x (y * 2 ^ k) g (2 ^ s) (pow_pos s) (IsGcd-twos x y k g odd is))

common_twos : (a b s t x y g : ℕ) → IsOddPart a s x → IsOddPart b t y → IsGcd x y g
    → IsGcd a b (g * 2 ^ min s t)
common_twos a b s t x y g ha hb is = by_order (cases_lt s t)
  where
    F : ℕ → ℕ → ℕ → Type 0
    F m n k = IsGcd m n (g * 2 ^ k)

    by_order : (s < t) ⊎ (t ≤ s) → IsGcd a b (g * 2 ^ min s t)
    by_order (inl less) =
        let low : s ≡ min s t = omega (arith, less) in
        let more : s + (t - s) ≡ t = omega (arith, less) in
        let right : y * 2 ^ (s + (t - s)) ≡ b = ap (λ k. y * 2 ^ k) more ∙ hb.parts in
        let odd = with_twos x y s (t - s) g ha.odd is in
        let whole : F a b s =
        subst (λ n. F a n s) right (subst (λ m. F m (y * 2 ^ (s + (t - s))) s) ha.parts odd) in
        subst (λ k. F a b k) low whole
    by_order (inr most) =
        let low : t ≡ min s t = omega (arith, most) in
        let more : t + (s - t) ≡ s = omega (arith, most) in
        let left : x * 2 ^ (t + (s - t)) ≡ a = ap (λ k. x * 2 ^ k) more ∙ ha.parts in
        let odd = with_twos y x t (s - t) g hb.odd (IsGcd-swap x y g is) in
        let whole : F b a t =
        subst (λ n. F b n t) left (subst (λ m. F m (x * 2 ^ (t + (s - t))) t) hb.parts odd) in
        subst (λ k. F a b k) low (IsGcd-swap b a (g * 2 ^ t) whole)

-- the greatest common divisor by odd parts
pub from_odd_parts : (a b s t x y g k : ℕ) → IsOddPart a s x → IsOddPart b t y → IsGcd x y g
    → k ≡ min s t → IsGcd a b (g * 2 ^ k)
from_odd_parts a b s t x y g k ha hb is least =
    subst (λ j. IsGcd a b (g * 2 ^ j)) (sym least) (common_twos a b s t x y g ha hb is)

-- a common divisor does not wrap
pub no_wrap : (w a b g : ℕ) → 0 < a → a < 2 ^ w → IsGcd a b g → IsGcd a b (g % 2 ^ w)
no_wrap w a b g some fits is =
    let within : g ≤ a = le_of_dvd some is.0 in
    subst (IsGcd a b) (sym (mod-eq_of_lt (let h : g < 2 ^ w = omega (arith, within, fits) in h))) is
