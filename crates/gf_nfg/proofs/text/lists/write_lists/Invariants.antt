use Rattle.gf_nfg.proofs.Common.{◌≡◌, ◌≤◌, ◌++◌, length, Keeps}
use Rattle.std.specs.Prelude.{vec_capacity}
use Rattle.gf_nfg.specs.inner.ListsLeft.{lists_left}
use Rattle.gf_nfg.proofs.text.lists.write_lists.Given as goal

abbrev pub invariant-loop-written : goal.invariant-loop-written
invariant-loop-written l = record {
  text : l.out.items ++ lists_left l.lists l.written
      ≡ l.initial.out.items ++ lists_left l.lists l.fn.written;
  kept : Keeps l.fn.out.items l.out.items;
  room : vec_capacity l.initial.out ≤ vec_capacity l.out;
}

abbrev pub decreases-loop-written : goal.decreases-loop-written
decreases-loop-written l = length (lists_left l.lists l.written)
