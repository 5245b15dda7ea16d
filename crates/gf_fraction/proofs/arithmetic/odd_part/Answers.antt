use Rattle.std.proofs.Common.{arith, refl}
use Rattle.gf_fraction.proofs.OddParts.{by_low_word, wide_odd_part}
use Rattle.gf_fraction.proofs.arithmetic.odd_part.Goals as goal

pub returns-then-low-eq0-clause-odd : goal.returns-then-low-eq0-clause-odd
returns-then-low-eq0-clause-odd c = grind (arith, wide_odd_part)

pub returns-then-low-eq0-clause-parts : goal.returns-then-low-eq0-clause-parts
returns-then-low-eq0-clause-parts c =
    (_, (wide_odd_part c.args.n _ c.requires (omega arith) refl).parts)

pub returns-else-low-eq0-clause-odd : goal.returns-else-low-eq0-clause-odd
returns-else-low-eq0-clause-odd c = (by_low_word c.args.n _ (omega arith) refl).odd

pub returns-else-low-eq0-clause-parts : goal.returns-else-low-eq0-clause-parts
returns-else-low-eq0-clause-parts c = (_, (by_low_word c.args.n _ (omega arith) refl).parts)
