use Rattle.gf_tree.proofs.Common.{◌≡◌, length, ℕ, List, IsFraction, label_of, set_of, set_with}
use Rattle.gf_tree.proofs.Common.{answer, NewSetName, NewAction}
use Rattle.gf_tree.specs.inner.ReaderState.{ReadsAction}
use Rattle.gf_tree.proofs.reader.Reader.new_set.Given as goal

abbrev pub invariant-loop-label : goal.invariant-loop-label
invariant-loop-label l = record {
  goes : (node : List ℕ) → answer (NewSetName node (set_of l.player l.number)) l.fn.self
      ≡ answer (NewAction node (set_of l.player l.number)
      (set_with (label_of l.name.label) l.self.sets.pending) l.sum)
      l.self;
  read : ReadsAction l.fn.self l.self;
  fraction : IsFraction l.sum;
}

abbrev pub decreases-loop-label : goal.decreases-loop-label
decreases-loop-label l = length l.self.tokens.ahead
