use Rattle.gf_canon.proofs.Common.{get, nat_cmp, Renumbering, number_of_set, Carries}
use Rattle.gf_tree.specs.NodesLeft.{nodes_left}
use Rattle.gf_canon.proofs.lemmas.numbers.Noted.{AreWalked}
use Rattle.gf_canon.proofs.numbering.carry.numbers_between.Given as goal

abbrev pub invariant-loop-node : goal.invariant-loop-node
invariant-loop-node l = (r : Renumbering) → Carries r l.g l.h
    → AreWalked r l.g (number_of_set l.sets) (get nat_cmp l.outcomes) (nodes_left l.node-iterator)
    (nodes_left l.others)
