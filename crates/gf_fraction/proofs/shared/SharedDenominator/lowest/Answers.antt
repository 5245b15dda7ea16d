use Rattle.std.proofs.Common.{◌≡◌, ap, arith, pos, subst, sym, ◌∙◌}
use Rattle.std.specs.Int.{w128}
use Rattle.std.specs.Prelude.{int_lt, unsigned_abs}
use Rattle.std.proofs.lemmas.Int.{to_z-of_z}
use Rattle.gf_fraction.specs.Ratio.{signed}
use Rattle.gf_fraction.specs.inner.Steps.{HoldsCommon}
use Rattle.gf_fraction.proofs.Divisors.{HoldsCommon-self}
use Rattle.gf_fraction.proofs.LowestTerms.{signed_value}
use Rattle.gf_fraction.proofs.shared.SharedDenominator.lowest.Goals as goal

pub reduced-requires-clause-common : goal.reduced-requires-clause-common
reduced-requires-clause-common c = HoldsCommon-self _ _ c.self.invariant.0

pub lowest-size-requires : goal.lowest-size-requires
lowest-size-requires c =
    subst (HoldsCommon c.unsigned_abs-size.result c.self.inside.den)
    (sym (c.self.invariant.2 (omega arith))) (HoldsCommon-self _ _ c.self.invariant.0)

pub returns-clause-value : goal.returns-clause-value
returns-clause-value c =
    let p = c.lowest-size.result.0 in
    let q = c.lowest-size.result.1 in
    let size_is : c.unsigned_abs-size.result ≡ unsigned_abs c.args.num =
    c.unsigned_abs-size.ensures.value
    ∙ ap unsigned_abs (to_z-of_z w128 c.args.num c.ranges.num) in
    let is : c.of_words.result
    ≡ record { num = signed (int_lt c.args.num (pos 0)) p; den = q } =
    grind arith in
    let value =
    signed_value c.args.num _ _ p q c.of_words.result size_is c.lowest-size.ensures is in
    grind arith

pub of_words-requires : goal.of_words-requires
of_words-requires c = grind arith
