use Rattle.gf_tree.proofs.Common.{◌≡◌, label_of, outcome_with, NewOutcomeName, NewPayoff, answer}
use Rattle.gf_tree.proofs.Common.{begun_with, false}
use Rattle.gf_tree.specs.inner.ReaderState.{ReadsPayoff}
use Rattle.gf_tree.proofs.reader.Reader.new_outcome.Given as goal

abbrev pub invariant-loop-left : goal.invariant-loop-left
invariant-loop-left g l = record {
  goes : answer (NewOutcomeName
      (begun_with l.fn.self.sets.known (label_of l.node) l.set) l.number) l.fn.self
      ≡ answer (NewPayoff false (begun_with l.fn.self.sets.known (label_of l.node) l.set)
      l.number (outcome_with (label_of l.name.label) l.self.outcomes.pending) l.left)
      l.self;
  read : ReadsPayoff l.fn.self l.self;
}

abbrev pub decreases-loop-left : goal.decreases-loop-left
decreases-loop-left g l = l.left
