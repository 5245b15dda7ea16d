use Rattle.std.proofs.Common.{arith}
use Rattle.gf_fraction.proofs.ShortNumbers.{read_on, left}
use Rattle.gf_fraction.proofs.fraction.Fraction.after_digits.Goals as goal

pub returns-clause-end : goal.returns-clause-end
returns-clause-end c = grind (arith, left, read_on)
