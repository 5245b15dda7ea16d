use Rattle.gf_form.proofs.Common.{◌≤◌, ◌<◌, ◌-◌, get_or, length}
use Rattle.gf_form.proofs.rows.chosen.count_near.Given as goal

abbrev pub invariant-loop-count : goal.invariant-loop-count
invariant-loop-count l = l.count ≤ length l.demands

abbrev pub decreases-loop-count : goal.decreases-loop-count
decreases-loop-count l = l.count

abbrev pub invariant-loop-count-2 : goal.invariant-loop-count-2
invariant-loop-count-2 l = (l.count ≤ length l.demands)
    × (0 < l.count → get_or l.demands (l.count - 1) 0 < l.number)

abbrev pub decreases-loop-count-2 : goal.decreases-loop-count-2
decreases-loop-count-2 l = length l.demands - l.count
