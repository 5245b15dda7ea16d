use Rattle.gf_fraction.proofs.LowestTerms.{mul_pos_left, value_from}
use Rattle.std.proofs.Common.{arith}
use Rattle.std.proofs.lemmas.Int.{ints}
use Rattle.gf_fraction.proofs.PowersOfTen.{pow_above_zero}
use Rattle.gf_fraction.proofs.read.scaled.Goals as goal

pub of_words-requires-clause-den_above_zero : goal.of_words-requires-clause-den_above_zero
of_words-requires-clause-den_above_zero c = grind (arith, mul_pos_left, pow_above_zero)

pub returns-in-Ok-try_from : goal.returns-in-Ok-try_from
returns-in-Ok-try_from c =
    grind (arith, value_from, ints)

pub returns-in_default : goal.returns-in_default
returns-in_default c = grind (arith, ints)
