use Rattle.gf_tree.proofs.Common.{◌≡◌, ◌+◌, ◌≤◌, drop, length, sizes_of, Begin, skipped}

abbrev pub invariant-loop-left : Rattle.gf_tree.proofs.game.kept.skip.Given.invariant-loop-left
invariant-loop-left l =
    (l.at ≤ length l.nodes) × Begin l.left (drop l.at (sizes_of l.nodes))
    × (l.at + skipped l.left (drop l.at (sizes_of l.nodes))
    ≡ l.fn.from + skipped l.fn.count (drop l.fn.from (sizes_of l.nodes)))

abbrev pub decreases-loop-left : Rattle.gf_tree.proofs.game.kept.skip.Given.decreases-loop-left
decreases-loop-left l = l.left
