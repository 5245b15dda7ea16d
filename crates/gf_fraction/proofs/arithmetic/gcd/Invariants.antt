use Rattle.std.proofs.Common.{ℕ}
use Rattle.std.specs.Int.{IsGcd}

abbrev pub invariant-loop-x : Rattle.gf_fraction.proofs.arithmetic.gcd.Given.invariant-loop-x
invariant-loop-x l = (g : ℕ) → IsGcd l.x l.y g → IsGcd l.fn.a l.fn.b g

abbrev pub decreases-loop-x : Rattle.gf_fraction.proofs.arithmetic.gcd.Given.decreases-loop-x
decreases-loop-x l = l.y
