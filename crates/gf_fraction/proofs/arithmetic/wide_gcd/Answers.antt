use Rattle.std.proofs.Common.{arith, refl}
use Rattle.gf_fraction.proofs.OddParts.{from_odd_parts, no_wrap, wide_odd_part}
use Rattle.gf_fraction.proofs.arithmetic.wide_gcd.Goals as goal

pub wide_odd_gcd-requires-clause-odd_a : goal.wide_odd_gcd-requires-clause-odd_a
wide_odd_gcd-requires-clause-odd_a c = (wide_odd_part c.args.a _ (omega arith) (omega arith) refl).odd

pub wide_odd_gcd-requires-clause-odd_b : goal.wide_odd_gcd-requires-clause-odd_b
wide_odd_gcd-requires-clause-odd_b c = (wide_odd_part c.args.b _ (omega arith) (omega arith) refl).odd

pub returns : goal.returns
returns c =
    no_wrap 128 c.args.a c.args.b _ (omega arith) (omega arith)
    (from_odd_parts c.args.a c.args.b _ _ _ _ c.wide_odd_gcd.result c.min.result
    (wide_odd_part c.args.a _ (omega arith) (omega arith) refl)
    (wide_odd_part c.args.b _ (omega arith) (omega arith) refl)
    c.wide_odd_gcd.ensures c.min.ensures)
