-- The computed answer of reading is the one that the text has.
use Rattle.std.proofs.Common.{◌≡◌, ℕ, ℤ, pos, ◌^◌, ◌<◌, Bool, true, List, Option}
use Rattle.std.proofs.Common.{Some, None, Result, Ok, Err, MatchResult, arith, refl, sym, subst}
use Rattle.std.specs.Prelude.{◌≤ℤ◌}
use Rattle.std.proofs.lemmas.Int.{ints}
use Rattle.std.proofs.lemmas.Result.{MatchResult-weaker}
use Rattle.gf_fraction.specs.Ratio.{Ratio}
use Rattle.gf_fraction.specs.NumberSpelling.{power_of_ten, IsBounded, IsNumber, Reading, den_of}
use Rattle.gf_fraction.specs.NoNumber.{HasNumberFault, Reads}
use Rattle.gf_fraction.specs.inner.NumberScan.{IsValueOf, HasReadingFault, scan}
use Rattle.gf_fraction.specs.inner.NumberScan.{after_sign, is_minus, reading_of}
use Rattle.gf_fraction.specs.inner.Computed.{is_bounded, value_of, answer_of, number_of}
use Rattle.gf_fraction.specs.declared.fraction.NumberFault.{NumberFault}
use Rattle.gf_fraction.specs.declared.read.Spelling.{Spelling}
use Rattle.gf_fraction.proofs.Integers.{unsigned_abs-signed}
use Rattle.gf_fraction.proofs.PowersOfTen.{pow_within}
use Rattle.gf_fraction.proofs.FoundIsSpelled.{found_number}
use Rattle.gf_fraction.proofs.AnswersFromScans.{number_from_value, fault_from_reading, unspelled}
use Rattle.gf_fraction.proofs.ReadingBack.{one_answer}
use Rattle.gf_fraction.proofs.ComputedArithmetic.{lowest_of-fraction, lowest_of-value}

bounded_to : (r : Reading) → IsBounded r → is_bounded r ≡ true
bounded_to r h = grind arith

power_within : (z : ℤ) → z ≤ℤ pos 38 → power_of_ten z < 2 ^ 127
power_within z h = grind (arith, pow_within, ints)

den_within : (r : Reading) → IsBounded r → den_of r < 2 ^ 127
den_within r h = grind (arith, power_within)

value_is_computed : (negative : Bool) (r : Reading) → MatchResult (value_of negative r)
    (λ f. IsValueOf negative r f) (λ fault. HasReadingFault r fault)
value_is_computed negative r =
    grind (arith, unsigned_abs-signed, lowest_of-fraction, den_within, lowest_of-value, bounded_to)

answer_is_computed : (text : List ℕ) (o : Option Spelling) → scan (after_sign text) ≡ o
    → Reads text (answer_of (is_minus text) o)
answer_is_computed text None e = unspelled text e
answer_is_computed text (Some s) e =
    let f = found_number text s e in
    MatchResult-weaker (value_of (is_minus text) (reading_of s))
    (value_is_computed (is_minus text) (reading_of s))
    (λ r v. number_from_value text (is_minus text) s r f v)
    (λ fault h. fault_from_reading text (is_minus text) s fault f h)

pub number_is_computed : (text : List ℕ) → Reads text (number_of text)
unfolding number_of
number_is_computed text = answer_is_computed text (scan (after_sign text)) refl

pub some_answer : (text : List ℕ) → (a : Result Ratio NumberFault) × Reads text a
some_answer text = (number_of text, number_is_computed text)

-- so whatever reading answers is what is computed
pub answer_is : (text : List ℕ) (a : Result Ratio NumberFault) → Reads text a → a ≡ number_of text
answer_is text a h = one_answer text a (number_of text) h (number_is_computed text)

-- the number that a text spells is the one that is computed of it
pub number_again : (text : List ℕ) (n : Ratio) → IsNumber text n → number_of text ≡ Ok n
number_again text n h = sym (answer_is text (Ok n) h)

-- and so is its fault
pub number_fault : (text : List ℕ) (fault : NumberFault) → HasNumberFault text fault
    → number_of text ≡ Err fault
number_fault text fault h = sym (answer_is text (Err fault) h)

pub ruleset number_answers = (answer_is, number_again, number_fault)

pub number_is : (text : List ℕ) (n : Ratio) → number_of text ≡ Ok n → IsNumber text n
number_is text n e = subst (Reads text) e (number_is_computed text)
