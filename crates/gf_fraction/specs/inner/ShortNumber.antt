-- How far a number is read on after its first digits, if numbers of 64 bits are enough for it. Only
-- contracts inside this crate cite this file.
use Rattle.std.specs.Prelude.{◌≡◌, ◌⊎◌, ℕ, List, [], ◌∷◌, ◌++◌, codes, length, ◌+◌, ◌-◌, ◌*◌, ◌^◌}
use Rattle.std.specs.Prelude.{◌<◌, ◌≤◌}
use Rattle.std.specs.Char.{digit_value}
use Rattle.std.specs.Str.Parse.{AllDigits, digits_value, digits_value_after}
use Rattle.gf_fraction.specs.ReadOn.{EndsDigits}

-- a value below the greatest multiple of ten that 64 bits have room for
abbrev pub IsShort : ℕ → Type 0
IsShort n = n < 2 ^ 64 - 6

-- no digit follows digits of value n, or one with which the value would not be short
abbrev pub Stops : ℕ → List ℕ → Type 0
Stops n [] = Unit {0}
Stops n (c ∷ cs) = digit_value c < 10 → ¬ (IsShort (n * 10 + digit_value c))

-- after digits of value n, these digits are all of those before the rest whose value is short
pub record IsRun (n : ℕ) (digits rest : List ℕ) : Type 0 where
  pub all : AllDigits 10 digits
  pub short : (digits ≡ []) ⊎ (IsShort (digits_value_after 10 n digits))
  pub stops : Stops (digits_value_after 10 n digits) rest

-- after digits of value n, these bytes are read on, and the rest is not: a slash and a denominator,
-- or a point and at most 19 digits, or nothing
pub data IsReadInWords (n : ℕ) : (more rest : List ℕ) → Type 0 where
  whole : (rest : List ℕ) → EndsDigits rest → IsReadInWords n [] rest
  rational : (den rest : List ℕ) → IsRun 0 den rest → 0 < digits_value 10 den
      → IsReadInWords n (codes "/" ++ den) rest
  pointed : (after rest : List ℕ) → IsRun n after rest → length after ≤ 19
      → IsReadInWords n (codes "." ++ after) rest

-- after digits of value n, what follows is not read: a slash and no denominator or a zero one, or a
-- point and more than 19 digits
pub data IsLeftByWords (n : ℕ) : List ℕ → Type 0 where
  no_denominator : (den rest : List ℕ) → IsRun 0 den rest → digits_value 10 den ≡ 0
      → IsLeftByWords n (codes "/" ++ den ++ rest)
  many_places : (after rest : List ℕ) → IsRun n after rest → 19 < length after
      → IsLeftByWords n (codes "." ++ after ++ rest)
