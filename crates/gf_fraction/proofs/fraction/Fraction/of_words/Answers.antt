use Rattle.std.proofs.Common.{arith, sym, subst, to_z, of_z}
use Rattle.std.specs.Int.{w128}
use Rattle.gf_fraction.specs.Ratio.{Ratio, IsFraction}
use Rattle.gf_fraction.specs.inner.Steps.{IsLowest}
use Rattle.gf_fraction.proofs.LowestTerms.{fraction_from}
use Rattle.gf_fraction.proofs.fraction.Fraction.of_words.Goals as goal

abbrev made : (c : goal.After-from-2) → Ratio
made c = record { num = to_z w128 (of_z w128 c.with_sign.result); den = c.from-2.result }

fraction : (c : goal.After-from-2) → IsFraction (made c)
fraction c =
    let n = c.args.num in
    let d = c.args.den in
    let low : IsLowest n d n d =
    record { by = 1; num = omega arith; den = omega arith; apart = c.requires.lowest } in
    subst IsFraction (sym (grind arith)) (fraction_from c.args.negative n d n d
    c.requires.den_above_zero (omega arith) (omega arith) low)

pub invariant_of-result : goal.invariant_of-result
invariant_of-result c = fraction c

pub returns-clause-fraction : goal.returns-clause-fraction
returns-clause-fraction c = fraction c

pub returns-clause-value : goal.returns-clause-value
returns-clause-value c = grind arith
