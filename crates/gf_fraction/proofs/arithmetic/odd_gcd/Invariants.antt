use Rattle.std.proofs.Common.{◌+◌}
use Rattle.gf_fraction.proofs.OddParts.{LeadTo}

abbrev pub invariant-loop-x : Rattle.gf_fraction.proofs.arithmetic.odd_gcd.Given.invariant-loop-x
invariant-loop-x l = LeadTo l.fn.a l.fn.b l.x l.y

abbrev pub decreases-loop-x : Rattle.gf_fraction.proofs.arithmetic.odd_gcd.Given.decreases-loop-x
decreases-loop-x l = l.x + l.y
