use Rattle.gf_form.proofs.Common.{◌+◌, ◌-◌, ◌<◌, ◌≤◌, ℕ, get_or}
use Rattle.gf_form.proofs.rows.asked.run_end.Given as goal

abbrev pub invariant-loop-end : goal.invariant-loop-end
invariant-loop-end l = (l.from ≤ l.end) × (l.end ≤ l.to)
    × ((i : ℕ) → l.from ≤ i → i < l.end → (l.first ≤ get_or l.numbers i 0)
    × (get_or l.numbers i 0 < l.first + l.count))

abbrev pub decreases-loop-end : goal.decreases-loop-end
decreases-loop-end l = l.to - l.end
