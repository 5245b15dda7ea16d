use Rattle.gf_canon.proofs.Common.{◌≡◌, map, ◌↔◌, file_nodes, canonical_game, node_by}
use Rattle.gf_canon.proofs.sameness.walk.same_nodes.Given as goal

abbrev pub invariant-loop-node : goal.invariant-loop-node
invariant-loop-node l = (map (node_by l.names) (file_nodes (canonical_game l.g))
    ≡ map (node_by l.names) (file_nodes (canonical_game l.h)))
    ↔ (map (node_by l.names) l.node-iterator ≡ map (node_by l.names) l.others)
