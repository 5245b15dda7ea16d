-- Probabilities as the machine adds them: each is judged by itself, and the sums are those of a
-- lottery.
use Rattle.gf_tree.proofs.Common.{NegativeProbability, sum_is_computed, number_again, NumberFault}
use Rattle.gf_tree.proofs.Common.{MatchOption, sum_of-some, SumAboveOne, IsFraction, number_is, ◌≡◌}
use Rattle.gf_tree.proofs.Common.{mul_above, up_to_one, IsNumber, share_of, share_by, SumFits, Bool}
use Rattle.gf_tree.proofs.Common.{Result, Option, AddsTo, negsuc, int_lt, false, arith, Ratio, true}
use Rattle.gf_tree.proofs.Common.{IsSum, Share, cond, List, refl, Some, None, ◌≤ℤ◌, ints, ◌*ℤ◌, ◌<◌}
use Rattle.gf_tree.proofs.Common.{◌+ℤ◌, ◌≤◌, ◌+◌, ◌∙◌, Err, pos, Why, ap, Ok, ℕ, ℤ}
use Rattle.std.proofs.Common.{◌*◌}
use Rattle.std.proofs.Math.Nat.{mul-le-mul_right, le_of_mul-le-mul_right}
use Rattle.gf_fraction.specs.Offered.{number_of, sum_of}

abbrev pub ok_share : Share → Result Share Why
ok_share s = Ok s

-- ---- what was read

-- the probability that was read, and the sum through it
pub record Shared (sum : Ratio) (b : List ℕ) (s : Share) : Type 0 where
  pub number : IsNumber b s.probability
  pub not_below : pos 0 ≤ℤ s.probability.num
  pub adds : AddsTo sum s.probability s.sum
  pub not_above : s.sum.num ≤ℤ pos s.sum.den

not_above : (z : ℤ) (d : ℕ) → int_lt (pos d) z ≡ false → z ≤ℤ pos d
not_above z d h = grind (arith, ints)

by_bound : (sum p next : Ratio) (b : List ℕ) (s : Share) (above : Bool)
    → IsNumber b p → pos 0 ≤ℤ p.num → AddsTo sum p next → int_lt (pos next.den) next.num ≡ above
    → cond above (Err SumAboveOne) (Ok (record { probability = p; sum = next })) ≡ ok_share s
    → Shared sum b s
by_bound sum p next b s true number low adds test e = absurd cc
by_bound sum p next b s false number low adds test e = grind arith

by_sum : (sum p : Ratio) (b : List ℕ) (s : Share) (o : Option Ratio)
    → MatchOption o (¬ (SumFits sum p)) (λ r. SumFits sum p × IsFraction r × IsSum r sum p)
    → IsNumber b p → pos 0 ≤ℤ p.num → up_to_one p o ≡ ok_share s → Shared sum b s
by_sum sum p b s None computed number low e = absurd cc
by_sum sum p b s (Some next) computed number low e =
    by_bound sum p next b s (int_lt (pos next.den) next.num) number low computed refl e

by_sign : (sum p : Ratio) (b : List ℕ) (s : Share) (below : Bool) → IsFraction sum → IsNumber b p
    → int_lt p.num (pos 0) ≡ below
    → cond below (Err NegativeProbability) (up_to_one p (sum_of sum p)) ≡ ok_share s
    → Shared sum b s
by_sign sum p b s true fraction number is e = absurd cc
by_sign sum p b s false fraction number is e =
    by_sum sum p b s (sum_of sum p) (sum_is_computed sum p fraction number.fraction) number
    (grind (arith, ints)) e

by_number : (sum : Ratio) (b : List ℕ) (s : Share) (o : Result Ratio NumberFault)
    → number_of b ≡ o → IsFraction sum → share_by sum o ≡ ok_share s → Shared sum b s
by_number sum b s (Err fault) is fraction e = absurd cc
by_number sum b s (Ok p) is fraction e =
    by_sign sum p b s (int_lt p.num (pos 0)) fraction (number_is b p is) refl e

pub share_found : (sum : Ratio) (b : List ℕ) (s : Share)
    → IsFraction sum → share_of sum b ≡ ok_share s → Shared sum b s
share_found sum b s fraction e = by_number sum b s (number_of b) refl fraction e

-- ---- each probability of a lottery is read

pub share_again : (sum p next : Ratio) (b : List ℕ)
    → IsFraction sum → IsNumber b p → pos 0 ≤ℤ p.num → AddsTo sum p next → next.num ≤ℤ pos next.den
    → share_of sum b ≡ ok_share (record { probability = p; sum = next })
share_again sum p next b fraction number low adds high =
    let known = number_again b p number in
    let sign : int_lt p.num (pos 0) ≡ false = grind (arith, ints) in
    let added = sum_of-some sum p fraction number.fraction next adds.0 adds.1 adds.2 in
    let bound : int_lt (pos next.den) next.num ≡ false = grind (arith, ints) in
    ap (share_by sum) known ∙ rw (sign, added, bound) refl

pub no_sign : (k d a b u v e : ℕ)
    → 0 < d → negsuc k *ℤ pos d ≡ (pos a *ℤ pos u +ℤ pos b *ℤ pos v) *ℤ pos e → ⊥
no_sign k d a b u v e h h2 = grind (arith, mul_above)

naturals : (z x y a b n : ℕ) → 0 < n → 0 < y → z * (x * y) ≡ (a * y + b * x) * n → z ≤ n → a ≤ x
naturals z x y a b n some above e high =
    let wide : z * (x * y) ≤ n * (x * y) = mul-le-mul_right (x * y) high in
    let turned : n * (x * y) ≡ (x * y) * n = omega arith in
    let within : (a * y + b * x) * n ≤ (x * y) * n = omega (arith, wide, turned, e) in
    let parts : a * y + b * x ≤ x * y = le_of_mul-le-mul_right within some in
    le_of_mul-le-mul_right (let low : a * y ≤ x * y = omega (arith, parts) in low) above

-- a sum that a number not below zero leads to at most one is at most one
pub sum_high : (sum p next : Ratio) → 0 < p.den → 0 < sum.den → pos 0 ≤ℤ p.num → AddsTo sum p next
    → next.num ≤ℤ pos next.den → sum.num ≤ℤ pos sum.den
sum_high sum p next above some low adds high = grind (arith, ints, no_sign, mul_above, naturals)
