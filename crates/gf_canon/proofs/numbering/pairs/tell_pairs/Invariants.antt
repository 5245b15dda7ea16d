use Rattle.gf_canon.proofs.Common.{◌+◌, List, ◌++◌, flat_map, Carries, numbers_from, Renumbering}
use Rattle.gf_canon.proofs.Common.{set_pairs, NumberPair}
use Rattle.gf_canon.proofs.numbering.pairs.tell_pairs.Given as goal

abbrev pub invariant-loop-before : goal.invariant-loop-before
invariant-loop-before g l = (r : Renumbering) (told : List NumberPair) → Carries r l.g l.h
    → g.P.ReceivePairs.holds l.fn.to told → g.P.ReceivePairs.holds l.to
    (told ++ flat_map (set_pairs r l.g) (numbers_from 0 (l.before + 1)))
