use Rattle.std.proofs.Common.{arith, refl}
use Rattle.gf_fraction.proofs.OddParts.{from_odd_parts, no_wrap, odd_part}
use Rattle.gf_fraction.proofs.arithmetic.word_gcd.Goals as goal

pub odd_gcd-requires-clause-odd_a : goal.odd_gcd-requires-clause-odd_a
odd_gcd-requires-clause-odd_a c = (odd_part c.args.a _ (omega arith) (omega arith) refl).odd

pub odd_gcd-requires-clause-odd_b : goal.odd_gcd-requires-clause-odd_b
odd_gcd-requires-clause-odd_b c = (odd_part c.args.b _ (omega arith) (omega arith) refl).odd

pub returns : goal.returns
returns c =
    no_wrap 64 c.args.a c.args.b _ (omega arith) (omega arith)
    (from_odd_parts c.args.a c.args.b _ _ _ _ c.odd_gcd.result c.min.result
    (odd_part c.args.a _ (omega arith) (omega arith) refl)
    (odd_part c.args.b _ (omega arith) (omega arith) refl)
    c.odd_gcd.ensures c.min.ensures)
