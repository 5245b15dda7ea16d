use Rattle.gf_canon.proofs.Common.{List, ◌++◌, take, Carries, Renumbering, outcome_pairs}
use Rattle.gf_canon.proofs.Common.{NumberPair}
use Rattle.gf_canon.proofs.numbering.pairs.tell_outcomes.Given as goal

abbrev pub invariant-loop-before : goal.invariant-loop-before
invariant-loop-before g l = (r : Renumbering) (told : List NumberPair) → Carries r l.g l.h
    → g.P.ReceivePairs.holds l.fn.to told
    → g.P.ReceivePairs.holds l.to (told ++ take l.before (outcome_pairs r l.g))
