use Rattle.gf_nfg.proofs.Common.{map, drop, length, IsPlaced}
use Rattle.gf_nfg.proofs.table.profile.place_of.Given as goal

abbrev pub invariant-loop-at : goal.invariant-loop-at
invariant-loop-at l = IsPlaced (drop l.at (map length l.frame.strategies)) (drop l.at l.profile)
    l.place
