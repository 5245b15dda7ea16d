use Rattle.gf_canon.proofs.Common.{◌≡◌, ◌++◌, Keeps, file_nodes}
use Rattle.gf_canon.proofs.lemmas.texts.Fields.{node_lines}
use Rattle.gf_canon.proofs.text.write.write_text.Given as goal

abbrev pub invariant-loop-node : goal.invariant-loop-node
invariant-loop-node l =
    (l.out.items ++ node_lines l.node-iterator ≡ l.initial.out.items ++ node_lines (file_nodes l.g))
    × Keeps l.fn.out.items l.out.items
