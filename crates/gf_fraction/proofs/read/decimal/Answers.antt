use Rattle.std.proofs.Common.{arith, to_z, of_z}
use Rattle.std.specs.Prelude.{◌-ℤ◌}
use Rattle.std.specs.Int.{w32}
use Rattle.std.proofs.lemmas.Int.{ints}
use Rattle.std.proofs.lemmas.Result.{MatchResult-weaker}
use Rattle.gf_fraction.proofs.PowersOfTen.{IsScalable, power_of_ten-above}
use Rattle.gf_fraction.proofs.read.decimal.Goals as goal

pub returns-then-digits-gt-LARGEST : goal.returns-then-digits-gt-LARGEST
returns-then-digits-gt-LARGEST c = grind (arith, power_of_ten-above, ints)

pub returns-then-power-gt-GREATEST_POWER : goal.returns-then-power-gt-GREATEST_POWER
returns-then-power-gt-GREATEST_POWER c = grind (arith, power_of_ten-above, ints)

pub returns : goal.returns
returns c =
    let places = c.args.places in
    let exponent = c.args.exponent in
    let power = to_z w32 (of_z w32 (to_z w32 places -ℤ to_z w32 (of_z w32 exponent))) in
    let h : IsScalable c.args.digits places exponent power = record {
      digits_within = omega arith;
      places_within = omega arith;
      exponent_within = omega (arith, ints);
      power_within = omega (arith, ints);
      power_is = omega (arith, ints);
    } in
    MatchResult-weaker c.scaled.result c.scaled.ensures
    (λ f scaled. (grind (arith, power_of_ten-above))) (λ fault over. (grind arith))
