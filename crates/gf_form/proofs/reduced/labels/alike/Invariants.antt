use Rattle.gf_form.proofs.Common.{◌≡◌, ◌≤◌, ◌-◌, ◌/◌, ◌%◌, AllByRecursion, length, take}
use Rattle.gf_form.proofs.reduced.labels.alike.Given as goal

abbrev pub invariant-loop-end : goal.invariant-loop-end
invariant-loop-end l = (l.end ≤ length l.strategies)
    × AllByRecursion (λ found. found.number % l.count / l.each ≡ l.before)
    (take l.end l.strategies)

abbrev pub decreases-loop-end : goal.decreases-loop-end
decreases-loop-end l = length l.strategies - l.end
