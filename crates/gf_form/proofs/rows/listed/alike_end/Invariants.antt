use Rattle.gf_form.proofs.Common.{get_or, length, Path, ◌-◌, ◌<◌, ◌≡◌, ◌≤◌, ℕ}
use Rattle.gf_form.proofs.rows.listed.alike_end.Given as goal

abbrev pub invariant-loop-end : goal.invariant-loop-end
invariant-loop-end l = (l.fn.start < l.end) × (l.end ≤ length l.nodes)
    × ((d : Path) (k : ℕ) → l.fn.start ≤ k → k < l.end
    → (get_or l.nodes k d).demands ≡ (get_or l.nodes l.fn.start d).demands)

abbrev pub decreases-loop-end : goal.decreases-loop-end
decreases-loop-end l = length l.nodes - l.end
