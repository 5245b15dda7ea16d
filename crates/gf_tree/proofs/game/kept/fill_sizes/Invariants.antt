use Rattle.gf_tree.proofs.Common.{◌≡◌, ◌≤◌, drop, length, map, child_counts, kept_of, sizes_of}
use Rattle.gf_tree.proofs.Common.{sizes_grown}

abbrev pub invariant-loop-at : Rattle.gf_tree.proofs.game.kept.fill_sizes.Given.invariant-loop-at
invariant-loop-at l =
    (l.at ≤ length l.nodes) × (map kept_of l.nodes ≡ map kept_of l.fn.nodes)
    × (drop l.at (sizes_of l.nodes)
    ≡ sizes_grown (drop l.at (child_counts l.sets.known (map kept_of l.fn.nodes))))

abbrev pub decreases-loop-at : Rattle.gf_tree.proofs.game.kept.fill_sizes.Given.decreases-loop-at
decreases-loop-at l = l.at
