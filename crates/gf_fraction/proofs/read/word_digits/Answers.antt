use Rattle.std.proofs.lemmas.Bool.Decides.{nat_tests}
use Rattle.std.proofs.Common.{arith}
use Rattle.gf_fraction.proofs.SpelledIsFound.{digit_from_ascii}
use Rattle.gf_fraction.proofs.ShortNumbers.{digits_more, value_more}

pub loop-len-preserved : Rattle.gf_fraction.proofs.read.word_digits.Goals.loop-len-preserved
loop-len-preserved c = grind (arith, value_more, nat_tests, digit_from_ascii, digits_more)
