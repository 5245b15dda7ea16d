-- The text of a fraction, and how many digits its parts have.
use Rattle.std.proofs.Common.{◌≡◌, ℕ, ℤ, pos, ◌+◌, ◌/◌, ◌^◌, ◌≤◌, ◌<◌}
use Rattle.std.proofs.Common.{List, [], ◌∷◌, ◌++◌, ◌∙◌, length, take, drop, arith}
use Rattle.std.proofs.Common.{refl, ap, append-nil, append_assoc, length-append}
use Rattle.std.specs.Prelude.{◌==◌, codes, decimal, unsigned_abs, if◌then◌else◌}
use Rattle.std.specs.Int.{from_bool}
use Rattle.std.specs.Int.Signed.{lt_z}
use Rattle.std.proofs.Math.Seq.{take-add, take-append_seam}
use Rattle.std.specs.Fmt.{signed_decimal}
use Rattle.std.proofs.lemmas.Fmt.{decimal_digit, decimal_step, length-decimal-le}
use Rattle.std.proofs.Math.Dec.{leb-suc-zero}
use Rattle.gf_fraction.specs.NumberText.{number_text}

-- what comes after the numerator
abbrev pub under_text : ℕ → List ℕ
under_text d = if d == 1 then [] else codes "/" ++ decimal d

pub number_parts : (z : ℤ) (d : ℕ)
    → signed_decimal z ++ under_text d ≡ number_text (record { num = z; den = d })
unfolding number_text
number_parts z d = grind (arith, append-nil, append_assoc)

-- digits are written after what is kept
pub digits_from : (old new number rest : List ℕ) (start : ℕ) → take start new ≡ take start old
    → drop start new ≡ number ++ rest → take (start + length number) new ≡ take start old ++ number
digits_from old new number rest start before written =
    rw (take-add start (length number) new, before, written, take-append_seam number rest) refl

pub signed : (z : ℤ) (rest : List ℕ)
    → take (from_bool (lt_z z (pos 0))) (45 ∷ rest) ++ decimal (unsigned_abs z) ≡ signed_decimal z
signed z rest = grind (arith, leb-suc-zero)

longer : (n : ℕ) → 10 ≤ n → n < 2 ^ 64 → length (decimal n) ≡ length (decimal (n / 10)) + 1
longer n lo hi = ap length (decimal_step n lo hi) ∙ length-append (decimal (n / 10)) _

pub length_one : (n : ℕ) → n < 10 → length (decimal n) ≡ 1
length_one n h = ap length (decimal_digit n h)

pub length_two : (n : ℕ) → 10 ≤ n → n < 100 → length (decimal n) ≡ 2
length_two n lo hi = grind (arith, longer, length_one)

pub length_three : (n : ℕ) → 100 ≤ n → n < 1000 → length (decimal n) ≡ 3
length_three n lo hi = grind (arith, longer, length_two)

pub length_four : (n : ℕ) → 1000 ≤ n → n < 10000 → length (decimal n) ≡ 4
length_four n lo hi = grind (arith, longer, length_one)

pub four_longer : (n : ℕ) → 10000 ≤ n → n < 2 ^ 64
    → length (decimal n) ≡ length (decimal (n / 10000)) + 4
four_longer n lo hi = grind (arith, longer)

pub few_digits : (n : ℕ) → n < 2 ^ 64 → length (decimal n) ≤ 20
few_digits n h = length-decimal-le 20 n (omega arith) (omega arith) h

pub ruleset short_counts = (length_one, length_two, length_three, length_four)

pub ruleset all_counts = (few_digits, four_longer)
