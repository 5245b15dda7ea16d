-- What the steps of an addition and a multiplication give. Only contracts inside this crate cite
-- this file.
use Rattle.std.specs.Prelude.{◌≡◌, ℕ, ℤ, pos, ◌+ℤ◌, ◌*ℤ◌, ◌*◌, ◌%◌, ◌^◌, ◌<◌}
use Rattle.std.specs.Int.{IsGcd, ◌∣◌}
use Rattle.gf_fraction.specs.Ratio.{IsWithin}
use Rattle.gf_fraction.specs.declared.lowest.Factors.{Factors}

-- each common divisor of n and d divides k, and k divides d
pub record HoldsCommon (n d k : ℕ) : Type 0 where
  pub above_zero : 0 < k
  pub part : k ∣ d
  pub all : (c : ℕ) → c ∣ n → c ∣ d → c ∣ k

-- p over q is n over d in lowest terms
pub record IsLowest (n d p q : ℕ) : Type 0 where
  pub by : ℕ
  pub num : p * by ≡ n
  pub den : q * by ≡ d
  pub apart : IsGcd p q 1

-- p is prime: a number that it does not divide has no common divisor with it except 1
pub record IsPrime (p : ℕ) : Type 0 where
  pub above_one : 1 < p
  pub apart : (n : ℕ) → 0 < n % p → IsGcd n p 1

-- the product of these
abbrev pub factored : Factors → ℕ
factored f = f.rest * 5 ^ f.fives * 3 ^ f.threes * 2 ^ f.twos

-- p over q is n over d, and each common divisor of p and q divides k
pub record IsReduced (n d p q k : ℕ) : Type 0 where
  pub by : ℕ
  pub num : p * by ≡ n
  pub den : q * by ≡ d
  pub held : HoldsCommon p q k

-- the denominator b * p, the numerators a * p and c * q, and their sum are at most 2^127 - 1 in
-- size
pub record PartsFit (a c : ℤ) (b p q : ℕ) : Type 0 where
  pub den : b * p < 2 ^ 127
  pub left : IsWithin (a *ℤ pos p)
  pub right : IsWithin (c *ℤ pos q)
  pub sum : IsWithin (a *ℤ pos p +ℤ c *ℤ pos q)
