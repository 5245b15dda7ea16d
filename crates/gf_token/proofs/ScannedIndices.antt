-- The digits of an index, one by one, if they are read while their end is looked for.
use Rattle.std.proofs.Common.{[], ◌≡◌, ℕ, ◌+◌, ◌-◌, ◌*◌, ◌<◌, ◌≤◌, ◌^◌, true, List, length, take}
use Rattle.std.proofs.Common.{drop, get_or, Some, None, sym, ap, subst, arith}
use Rattle.std.specs.Prelude.{nat_lt, slice_range, if◌then◌else◌}
use Rattle.std.specs.Char.{digit_value, is_ascii_digit}
use Rattle.std.specs.Str.Parse.{AllDigits, digits_value}
use Rattle.std.proofs.Math.Nat.{pow-le-pow_right}
use Rattle.std.proofs.lemmas.Bool.Decides.{nat_tests}
use Rattle.std.proofs.lemmas.Int.Digits.{digits_more, digits_value_more, digits_value-lt}
use Rattle.std.proofs.lemmas.List.{get_or-drop, length-drop, length-take-le}
use Rattle.gf_fraction.proofs.Offered.{digit_from_ascii}
use Rattle.gf_token.specs.Index.{ReadsIndex}

-- a digit more
module _ (bytes : List ℕ) (start at : ℕ) (from : start ≤ at) (within : at < length bytes)
    (digit : is_ascii_digit (get_or bytes at 0) ≡ true) where
  next : at + 1 - start ≡ at - start + 1
  next = omega arith

  byte : get_or (drop start bytes) (at - start) 0 ≡ get_or bytes at 0
  byte = grind (arith, get_or-drop)

  small : digit_value (get_or (drop start bytes) (at - start) 0) < 10
  small = rw byte (digit_from_ascii (get_or bytes at 0) digit)

  pub more_digits : AllDigits 10 (slice_range bytes start at)
      → AllDigits 10 (slice_range bytes start (at + 1))
  more_digits all = grind (arith, digits_more, length-drop, small, next)

  pub more_value : digits_value 10 (slice_range bytes start (at + 1))
      ≡ digits_value 10 (slice_range bytes start at) * 10 + digit_value (get_or bytes at 0)
  more_value = grind (arith, digits_value_more, length-drop, get_or-drop)

-- the first digit
module _ (bytes : List ℕ) (start : ℕ) (within : start < length bytes)
    (digit : is_ascii_digit (get_or bytes start 0) ≡ true) where
  pub none : slice_range bytes start start ≡ []
  none = let n : start - start ≡ 0 = omega arith in ap (λ (i : ℕ). take i (drop start bytes)) n

  no_digits : AllDigits 10 (slice_range bytes start start)
  no_digits = subst (AllDigits 10) (sym none) tt

  pub first_digits : AllDigits 10 (slice_range bytes start (start + 1))
  first_digits = more_digits bytes start start (omega arith) within digit no_digits

-- a further digit has room in 64 bits
pub has_room : (bytes : List ℕ) (start at value : ℕ) → start ≤ at → at ≤ length bytes
    → at - start < 19 → AllDigits 10 (slice_range bytes start at)
    → value ≡ digits_value 10 (slice_range bytes start at) → value * 10 + 9 < 2 ^ 64
has_room bytes start at value from within few all is =
    grind (arith, length-take-le, length-drop, digits_value-lt, pow-le-pow_right)

-- what digits by themselves are read as
pub scanned : (bytes : List ℕ) (start at value : ℕ) → start < at → at ≤ length bytes
    → AllDigits 10 (slice_range bytes start at)
    → value ≡ digits_value 10 (slice_range bytes start at)
    → ReadsIndex (slice_range bytes start at) (if nat_lt value (2 ^ 32) then Some value else None)
scanned bytes start at value some within digits is =
    grind (arith, length-take-le, length-drop, nat_tests)
