use Rattle.gf_form.proofs.Common.{vec_capacity, IsSumAt, vec_len, length, ◌+◌, ◌-◌, ◌<◌, ◌≡◌, ◌≤◌}
use Rattle.gf_form.specs.inner.rows.ItemRows.{HasRow}
use Rattle.gf_form.proofs.rows.sums.push_numbers.Given as goal

abbrev pub invariant-loop-place : goal.invariant-loop-place
invariant-loop-place l = record {
  adding : HasRow (IsSumAt l.first l.second l.scale l.den) l.place l.fn.numbers.items
      l.numbers.items;
  known : 0 < l.den → l.den ≡ l.scale.den;
  room : vec_len l.numbers + (length l.first - l.place) ≤ vec_capacity l.numbers;
}
