-- How far a number is read on after its first digits, whatever room there is for more of them.
use Rattle.std.specs.Prelude.{◌≡◌, ℕ, ◌<◌, List, [], ◌∷◌, ◌++◌, codes, length, false}
use Rattle.std.specs.Char.{is_ascii_digit}
use Rattle.std.specs.Str.Parse.{AllDigits, digits_value}

-- neither a slash nor a point comes first
abbrev pub EndsDigits : List ℕ → Type 0
EndsDigits [] = Unit {0}
EndsDigits (c ∷ cs) = (¬ (c ≡ 47)) × (¬ (c ≡ 46))

-- no digit comes first
abbrev pub BeginsNoDigit : List ℕ → Type 0
BeginsNoDigit [] = Unit {0}
BeginsNoDigit (c ∷ cs) = is_ascii_digit c ≡ false

-- these bytes are read on, and the rest is not: a slash and a denominator, or a point and digits,
-- or nothing
pub data IsReadOn : (more rest : List ℕ) → Type 0 where
  whole : (rest : List ℕ) → EndsDigits rest → IsReadOn [] rest
  rational : (den rest : List ℕ) → AllDigits 10 den → 0 < digits_value 10 den
      → IsReadOn (codes "/" ++ den) rest
  pointed : (after rest : List ℕ) → AllDigits 10 after → IsReadOn (codes "." ++ after) rest

-- this is not read: a slash and no denominator or a zero one, or a point and digits
pub data IsLeft : List ℕ → Type 0 where
  no_denominator : (den rest : List ℕ) → AllDigits 10 den → digits_value 10 den ≡ 0
      → BeginsNoDigit rest → IsLeft (codes "/" ++ den ++ rest)
  many_places : (after rest : List ℕ) → AllDigits 10 after → 0 < length after
      → IsLeft (codes "." ++ after ++ rest)
