use Rattle.gf_form.proofs.Common.{game_of_branches, branches_left, child_trees, game_of, tree_of}
use Rattle.gf_form.proofs.Common.{AreOf, ◌++◌, map, ◌≡◌}
use Rattle.gf_form.proofs.values.nodes.push_children.Given as goal

abbrev pub invariant-loop-child : goal.invariant-loop-child
invariant-loop-child l = record {
  trees : map tree_of l.branches.items ++ branches_left l.child-iterator
      ≡ map tree_of l.fn.branches.items ++ child_trees (tree_of l.fn.node);
  game : game_of_branches l.child-iterator ≡ game_of l.fn.node;
  games : AreOf (game_of l.fn.node) l.fn.branches.items
      → AreOf (game_of l.fn.node) l.branches.items;
}
