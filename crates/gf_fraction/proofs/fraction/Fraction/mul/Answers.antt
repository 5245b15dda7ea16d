use Rattle.std.proofs.Common.{◌≡◌, subst, pos, not, to_z, of_z, ◌*◌, ◌^◌, ◌<◌, rules, arith}
use Rattle.std.specs.Prelude.{int_lt}
use Rattle.std.specs.Int.{w128}
use Rattle.std.proofs.lemmas.Result.{MatchResult-from_err}
use mathlib.Core.Bool.{beq}
use Rattle.gf_fraction.specs.Product.{ProductFits}
use Rattle.gf_fraction.specs.Ratio.{IsFraction, signed}
use Rattle.gf_fraction.proofs.Divisors.{HoldsCommon-self}
use Rattle.gf_fraction.proofs.Products.{Multiplying, product_fraction, product_value}
use Rattle.gf_fraction.proofs.Products.{product_within}
use Rattle.gf_fraction.proofs.fraction.Fraction.mul.Goals as goal
use Rattle.gf_fraction.proofs.fraction.Fraction.mul.Goals.{After-lowest-right, After-with_sign}

pub lowest-left-requires : goal.lowest-left-requires
lowest-left-requires c = HoldsCommon-self _ _ c.o.invariant.den_above_zero

pub lowest-right-requires : goal.lowest-right-requires
lowest-right-requires c = HoldsCommon-self _ _ c.self.invariant.den_above_zero

multiplying : (c : After-lowest-right) → Multiplying c.args.self c.args.o c.unsigned_abs.result
    c.unsigned_abs-2.result c.self.inside.den c.o.inside.den c.lowest-left.result.0
    c.lowest-left.result.1 c.lowest-right.result.0 c.lowest-right.result.1
multiplying c = grind arith

num_is : (c : After-with_sign) → to_z w128 (of_z w128 c.with_sign.result)
    ≡ signed (not (beq (int_lt c.args.self.num (pos 0)) (int_lt c.args.o.num (pos 0))))
    (c.lowest-left.result.0 * c.lowest-right.result.0)
num_is c = grind arith

fraction : (c : After-with_sign)
    → IsFraction (record { num = to_z w128 (of_z w128 c.with_sign.result); den = c.in_ok-den.den })
fraction c =
    let size = c.in_ok-size.ensures in
    let den = c.in_ok-den.ensures in
    product_fraction _ _ _ _ _ _ _ _ _ _
    (multiplying (goal.at.invariant_of-result c).After-lowest-right) _ _ (num_is c) den.0
    (subst (λ k. k < 2 ^ 127) size.0 size.1) (subst (λ k. k < 2 ^ 127) den.0 den.1)

pub invariant_of-result : goal.invariant_of-result
invariant_of-result c = fraction c

pub returns : goal.returns
returns c =
    let h = multiplying (goal.at.returns c).After-lowest-right in
    let value = product_value _ _ _ _ _ _ _ _ _ _ h _ _ (grind arith) c.in_ok-den.ensures.0 in
    record {
      product = (fraction c, value);
      overflow = record {
        product = record { num = to_z w128 (of_z w128 c.with_sign.result); den = c.in_ok-den.den };
        fraction = fraction c;
        value = value;
      };
    }

pub returns-in_err-size-clause-overflow : goal.returns-in_err-size-clause-overflow
returns-in_err-size-clause-overflow c =
    let h = multiplying (goal.at.returns-in_err-size-clause-overflow c).After-lowest-right in
    let over = c.in_err-size.ensures in
    MatchResult-from_err c.from_residual.result (λ _. ProductFits c.args.self c.args.o)
    (λ _. ¬ (ProductFits c.args.self c.args.o)) (search rules)
    (λ _ fits. let within = (product_within _ _ _ _ _ _ _ _ _ _ h fits).0 in
    omega (arith, over, within))

pub returns-in_err-den-clause-overflow : goal.returns-in_err-den-clause-overflow
returns-in_err-den-clause-overflow c =
    let h = multiplying (goal.at.returns-in_err-den-clause-overflow c).After-lowest-right in
    let over = c.in_err-den.ensures in
    MatchResult-from_err c.from_residual-in_err-den.result (λ _. ProductFits c.args.self c.args.o)
    (λ _. ¬ (ProductFits c.args.self c.args.o)) (search rules)
    (λ _ fits. let within = (product_within _ _ _ _ _ _ _ _ _ _ h fits).1 in
    omega (arith, over, within))
