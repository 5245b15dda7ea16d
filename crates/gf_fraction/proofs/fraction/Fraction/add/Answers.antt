use Rattle.std.proofs.Common.{arith, rules, ◌≡◌, ◌∙◌, to_z, of_z}
use Rattle.std.specs.Int.{w128}
use Rattle.std.proofs.lemmas.Int.{to_z-of_z, fits_signed_from_abs}
use Rattle.std.proofs.lemmas.Result.{MatchResult-from_err}
use Rattle.std.proofs.Math.Nat.{pos_of_dvd_of_pos}
use Rattle.gf_fraction.specs.Sum.{SumFits}
use Rattle.gf_fraction.proofs.FractionFields.{IsFraction-seen, den_seen}
use Rattle.gf_fraction.proofs.Sums.{Adding, Adding-equal, equal_parts, equal_value}
use Rattle.gf_fraction.proofs.Sums.{sum_fits, sum_overflows, sum_value, sum_common, sum_den_above}
use Rattle.gf_fraction.proofs.fraction.Fraction.add.Goals as goal
use Rattle.gf_fraction.proofs.fraction.Fraction.add.Goals.{After-total, After-quotient-by_right}
use Rattle.gf_fraction.proofs.fraction.Fraction.add.Goals.{In_ok-num-2}

-- over one denominator

equal : (c : After-total) → Adding c.args.self c.args.o (to_z w128 (of_z w128 c.self.inside.num))
    (to_z w128 (of_z w128 c.o.inside.num)) c.self.inside.den c.o.inside.den c.self.inside.den 1 1
equal c =
    Adding-equal c.args.self c.args.o _ _ _ _ (IsFraction-seen _ _ c.self.invariant c.self.view_is)
    (IsFraction-seen _ _ c.o.invariant c.o.view_is) (grind arith) (grind arith)
    (den_seen _ _ c.self.view_is) (den_seen _ _ c.o.view_is) c.if-self-o.true

pub returns-in_err-num-clause-overflow : goal.returns-in_err-num-clause-overflow
returns-in_err-num-clause-overflow c =
    let e = equal (goal.at.returns-in_err-num-clause-overflow c).After-total in
    MatchResult-from_err c.from_residual.result (λ _. SumFits c.args.self c.args.o)
    (λ _. ¬ (SumFits c.args.self c.args.o)) (search rules)
    (λ _. sum_overflows _ _ _ _ _ _ _ _ _ e (grind arith))

pub returns-then-self-o : goal.returns-then-self-o
returns-then-self-o c =
    let e = equal (goal.at.returns-then-self-o c).After-total in
    let is = c.in_ok-num.ensures in
    let back = to_z-of_z w128 c.in_ok-num.num (fits_signed_from_abs w128 c.in_ok-num.num is.1) in
    record {
      sum = (
        c.reduced.ensures.fraction,
        equal_value _ _ _ _ _ _ _ _ e (back ∙ is.0) c.reduced.ensures.value,
      );
      overflow = sum_fits _ _ _ _ _ _ _ _ _ e (equal_parts _ _ _ _ _ _ _ e is.0 is.1);
    }

-- over two denominators

adding : (c : After-quotient-by_right)
    → Adding c.args.self c.args.o (to_z w128 (of_z w128 c.self.inside.num))
    (to_z w128 (of_z w128 c.o.inside.num)) c.self.inside.den c.o.inside.den c.gcd-common.result
    c.quotient-by_left.result c.quotient-by_right.result
adding c = grind arith

pub quotient-by_left-requires : goal.quotient-by_left-requires
quotient-by_left-requires c = pos_of_dvd_of_pos c.gcd-common.ensures.1 c.o.invariant.den_above_zero

pub quotient-by_right-requires : goal.quotient-by_right-requires
quotient-by_right-requires c = pos_of_dvd_of_pos c.gcd-common.ensures.1 c.o.invariant.den_above_zero

num_back : (c : In_ok-num-2) → to_z w128 (of_z w128 c.in_ok-num-2.num) ≡ c.in_ok-num-2.num
num_back c = grind arith

pub reduced-requires-2-clause-den_above_zero : goal.reduced-requires-2-clause-den_above_zero
reduced-requires-2-clause-den_above_zero c =
    let is = c.in_ok-num-2.ensures in
    sum_den_above _ _ _ _ _ _ _ _ _
    (adding (goal.at.reduced-requires-2-clause-den_above_zero c).After-quotient-by_right)
    c.in_ok-num-2.den is.2

pub reduced-requires-2-clause-common : goal.reduced-requires-2-clause-common
reduced-requires-2-clause-common c =
    let is = c.in_ok-num-2.ensures in
    sum_common _ _ _ _ _ _ _ _ _
    (adding (goal.at.reduced-requires-2-clause-common c).After-quotient-by_right) _ _
    (num_back (goal.at.reduced-requires-2-clause-common c).In_ok-num-2 ∙ is.1) is.2

pub returns : goal.returns
returns c = grind (arith, adding, sum_value, sum_fits)

pub returns-in_err-num-2-clause-overflow : goal.returns-in_err-num-2-clause-overflow
returns-in_err-num-2-clause-overflow c =
    let h = adding (goal.at.returns-in_err-num-2-clause-overflow c).After-quotient-by_right in
    MatchResult-from_err c.from_residual-in_err-num-2.result (λ _. SumFits c.args.self c.args.o)
    (λ _. ¬ (SumFits c.args.self c.args.o)) (search rules)
    (λ _. sum_overflows _ _ _ _ _ _ _ _ _ h c.in_err-num-2.ensures)
