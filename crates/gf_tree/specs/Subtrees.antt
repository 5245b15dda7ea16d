-- The subtrees of a tree.
use Rattle.std.specs.Prelude.{ℕ, List, [], ◌∷◌, ◌++◌, get_or, length, map}
use Rattle.gf_tree.specs.Tree.{Tree, Trees}
use Rattle.gf_tree.specs.Tree.Tree.{branch}
use Rattle.gf_tree.specs.Tree.Trees.{none, more}
use Rattle.gf_tree.specs.PrefixOrder.{flatten}

-- the node at its root
abbrev pub root_node : {N : Type 0} → Tree N → N
root_node (branch n ts) = n

-- trees as a list
abbrev pub list_of : {N : Type 0} → Trees N → List (Tree N)
list_of none = []
list_of (more t ts) = t ∷ list_of ts

-- the subtrees of its root's children, from the first to the last
abbrev pub child_trees : {N : Type 0} → Tree N → List (Tree N)
child_trees (branch n ts) = list_of ts

-- the subtree of each node, in prefix order
abbrev mutual
  pub subtrees : {N : Type 0} → Tree N → List (Tree N)
  subtrees (branch n ts) = branch n ts ∷ subtrees_all ts

  pub subtrees_all : {N : Type 0} → Trees N → List (Tree N)
  subtrees_all none = []
  subtrees_all (more t ts) = subtrees t ++ subtrees_all ts

-- how many nodes the subtree of each node has, in prefix order
abbrev pub subtree_sizes : {N : Type 0} → Tree N → List ℕ
subtree_sizes t = map (λ s. length (flatten s)) (subtrees t)

-- the subtree of the node at this place, from 0
abbrev pub subtree_at : {N : Type 0} → Tree N → ℕ → Tree N
subtree_at t at = get_or (subtrees t) at t
