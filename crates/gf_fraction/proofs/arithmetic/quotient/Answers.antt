use Rattle.std.proofs.Common.{◌*◌, ◌/◌, ◌^◌, ap, arith, refl}
use Rattle.std.specs.Int.{trailing_zeros, w128}
use Rattle.gf_fraction.proofs.OddParts.{wide_odd_part}
use Rattle.gf_fraction.proofs.arithmetic.quotient.Goals as goal

pub returns-then-by-twos-eq1 : goal.returns-then-by-twos-eq1
returns-then-by-twos-eq1 c =
    let t = trailing_zeros w128 c.args.by in
    let part = wide_odd_part c.args.by t (omega arith) (omega arith) refl in
    ap (λ k. c.args.n / k) (omega (arith, ap (λ m. m * 2 ^ t) c.if-by-twos-eq1.true, part.parts))
