use Rattle.gf_form.proofs.Common.{AllByRecursion, reverse, sum_by, ◌+◌, ◌≡◌, ℕ}
use Rattle.gf_form.specs.inner.values.ValueLeft.{whole_value, next_value, tree_value, next_size}
use Rattle.gf_form.specs.inner.values.ValueLeft.{tree_there}
use Rattle.gf_form.specs.inner.values.ValueLeft.{open_size, IsNext, IsOpen}
use Rattle.gf_form.proofs.values.walk.Walk.value.Given as goal

abbrev pub invariant-loop-next : goal.invariant-loop-next
invariant-loop-next l = IsNext l.self l.next
    × AllByRecursion (IsOpen l.self) (reverse l.open.items)
    × ((k : ℕ) → tree_value l.self k (tree_there l.self l.fn.node)
    ≡ whole_value l.self k (reverse l.open.items) (next_value l.self k l.next))

abbrev pub decreases-loop-next : goal.decreases-loop-next
decreases-loop-next l =
    sum_by (open_size l.self) l.open.items + next_size l.self l.next
