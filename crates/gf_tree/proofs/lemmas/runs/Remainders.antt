-- Each sum of probabilities that the machine goes on with can be completed to one.
use Rattle.gf_tree.proofs.Common.{◌≡◌, ◌<◌, ◌≤◌, ◌-◌, ℕ, refl, sym, ap, subst, arith, pos, ◌≤ℤ◌}
use Rattle.gf_tree.proofs.Common.{ints, Ratio, IsFraction, whole, IsSum, AddsTo, whole_fraction, ℤ}
use Rattle.gf_tree.proofs.Common.{negsuc, ◌+ℤ◌, *ℤ_comm, mul_above}
use Rattle.std.proofs.Math.Nat.{one-dvd, dvd-sub_iff_right}
use Rattle.gf_fraction.proofs.Offered.{Adding-equal, equal_parts, equal_value, sum_fits}

-- a sum of probabilities
pub record IsShare (r : Ratio) : Type 0 where
  pub fraction : IsFraction r
  pub low : pos 0 ≤ℤ r.num
  pub high : r.num ≤ℤ pos r.den

-- numbers not below zero have a sum that is not
pub sum_low : (x y r : Ratio)
    → 0 < x.den → 0 < y.den → pos 0 ≤ℤ x.num → pos 0 ≤ℤ y.num → IsSum r x y → pos 0 ≤ℤ r.num
sum_low x y r hx hy lx ly is = grind (arith, mul_above)

-- what is left to one
pub record Remainder (sum : Ratio) : Type 0 where
  pub rest : Ratio
  pub fraction : IsFraction rest
  pub low : pos 0 ≤ℤ rest.num
  pub adds : AddsTo sum rest (whole (pos 1))

abbrev over : ℕ → ℕ → Ratio
over a d = record { num = pos a; den = d }

of_parts : (a d : ℕ) → a ≤ d → IsFraction (over a d) → Remainder (over a d)
of_parts a d within is =
    let left : IsFraction (over (d - a) d) = record {
      den_above_zero = is.den_above_zero;
      den_within = is.den_within;
      num_within = let small = is.den_within in omega (arith, small);
      lowest = grind (arith, one-dvd, dvd-sub_iff_right);
    } in
    let adding = Adding-equal (over a d) (over (d - a) d) (pos a) (pos (d - a)) d d is left refl
    refl refl refl refl in
    let both : pos d ≡ pos a +ℤ pos (d - a) = ap pos (omega arith) in
    let parts = equal_parts (over a d) (over (d - a) d) (pos a) (pos (d - a)) (pos d) d d adding
    both is.den_within in
    record {
      rest = over (d - a) d;
      fraction = left;
      low = omega (arith, ints);
      adds = grind (arith, sum_fits, whole_fraction, equal_value, *ℤ_comm);
    }

pub remainder : (sum : Ratio) → IsShare sum → Remainder sum
remainder sum h = by sum.num refl h.low h.high
  where
    by : (z : ℤ) → sum.num ≡ z → pos 0 ≤ℤ z → z ≤ℤ pos sum.den → Remainder sum
    by (negsuc a) e low high = absurd (omega (arith, ints))
    by (pos a) e low high =
        let is : sum ≡ over a sum.den = λ i. record { num = e i; den = sum.den } in
        let within : a ≤ sum.den = omega (arith, ints) in
        subst Remainder (sym is) (of_parts a sum.den within (subst IsFraction is h.fraction))
