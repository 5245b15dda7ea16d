use Rattle.gf_canon.proofs.Common.{◌≡◌, ◌+◌, ◌-◌, ◌≤◌, positions}
use Rattle.std.proofs.Common.{vec_capacity, vec_len}
use Rattle.gf_canon.proofs.numbering.numbers_to.Given as goal

abbrev pub invariant-loop-before : goal.invariant-loop-before
invariant-loop-before l = (l.numbers.items ≡ positions l.before)
    × (vec_len l.numbers + (l.count - l.before) ≤ vec_capacity l.numbers)
