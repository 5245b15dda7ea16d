use Rattle.gf_form.proofs.Common.{◌≡◌, ◌≤◌, ◌-◌, ℕ, length, AllByRecursion, IsFraction, zero_ratio}
use Rattle.gf_form.proofs.Common.{at_place}
use Rattle.gf_form.proofs.values.rows.write_out.Given as goal

abbrev pub invariant-loop-row : goal.invariant-loop-row
invariant-loop-row l = (length l.row.items ≤ l.players)
    × AllByRecursion IsFraction l.row.items
    × ((k : ℕ) → at_place l.row.items k ≡ zero_ratio)

abbrev pub decreases-loop-row : goal.decreases-loop-row
decreases-loop-row l = l.players - length l.row.items
