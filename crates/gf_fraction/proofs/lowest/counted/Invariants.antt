use Rattle.std.proofs.Common.{◌≡◌, ◌+◌, ◌*◌, ◌^◌, ◌<◌, ◌≤◌}

abbrev pub invariant-loop-left : Rattle.gf_fraction.proofs.lowest.counted.Given.invariant-loop-left
invariant-loop-left l = (0 < l.left) × (l.left * l.fn.prime ^ l.count ≡ l.fn.number)
    × (l.count + l.left ≤ l.fn.number)

abbrev pub decreases-loop-left : Rattle.gf_fraction.proofs.lowest.counted.Given.decreases-loop-left
decreases-loop-left l = l.left
