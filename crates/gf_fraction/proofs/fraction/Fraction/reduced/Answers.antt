use Rattle.std.proofs.Common.{arith, ◌≡◌, ap, ◌∙◌, to_z, of_z}
use Rattle.std.specs.Prelude.{unsigned_abs}
use Rattle.std.specs.Int.{w128}
use Rattle.std.proofs.lemmas.Int.{to_z-of_z}
use Rattle.gf_fraction.specs.Ratio.{IsFraction}
use Rattle.gf_fraction.proofs.LowestTerms.{reduced_fraction, reduced_value}
use Rattle.gf_fraction.proofs.fraction.Fraction.reduced.Goals as goal

size_is : (c : goal.After-with_sign) → c.unsigned_abs.result ≡ unsigned_abs c.args.num
size_is c = c.unsigned_abs.ensures.value ∙ ap unsigned_abs (to_z-of_z w128 c.args.num c.ranges.num)

fraction : (c : goal.After-with_sign) → IsFraction
    (record { num = to_z w128 (of_z w128 c.with_sign.result); den = c.lowest-size.result.1 })
fraction c =
    reduced_fraction c.args.num _ _ _ _ _ c.requires.den_above_zero c.requires.den_within
    c.requires.num_within (size_is c) c.lowest-size.ensures (grind arith)

pub invariant_of-result : goal.invariant_of-result
invariant_of-result c = fraction c

pub returns-clause-fraction : goal.returns-clause-fraction
returns-clause-fraction c = fraction c

pub returns-clause-value : goal.returns-clause-value
returns-clause-value c =
    reduced_value c.args.num _ _ _ _ _ (size_is c) c.lowest-size.ensures (grind arith)
