use Rattle.gf_form.proofs.Common.{◌≡◌, ◌+◌, ◌-◌, ◌≤◌, ◌++◌, length, take, vec_capacity, vec_len}
use Rattle.gf_form.proofs.rows.terms.push_few.Given as goal

abbrev pub invariant-loop-place : goal.invariant-loop-place
invariant-loop-place g l = (l.items.items ≡ l.fn.items.items ++ take l.place l.few)
    × (vec_len l.items + (length l.few - l.place) ≤ vec_capacity l.items)
