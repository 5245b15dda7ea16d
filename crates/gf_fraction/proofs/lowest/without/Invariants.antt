use Rattle.std.proofs.Common.{ℕ, ◌*◌, ◌^◌}
use Rattle.gf_fraction.specs.inner.Steps.{HoldsCommon, IsReduced}

abbrev pub invariant-loop-left : Rattle.gf_fraction.proofs.lowest.without.Given.invariant-loop-left
invariant-loop-left l = (k : ℕ) → HoldsCommon l.fn.size l.fn.den (k * l.fn.prime ^ l.fn.count)
    → IsReduced l.fn.size l.fn.den l.size l.den (k * l.fn.prime ^ l.left)

abbrev pub decreases-loop-left : Rattle.gf_fraction.proofs.lowest.without.Given.decreases-loop-left
decreases-loop-left l = l.left
