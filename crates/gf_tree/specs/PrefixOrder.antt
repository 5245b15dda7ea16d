-- Trees as flat lists in prefix order: a node, then the subtrees of its children from the first to
-- the last.
use Rattle.std.specs.Prelude.{ℕ, List, [], ◌∷◌, ◌++◌}
use Rattle.gf_tree.specs.Tree.{Tree, Trees, count}
use Rattle.gf_tree.specs.Tree.Tree.{branch}
use Rattle.gf_tree.specs.Tree.Trees.{none, more}

-- a node, and how many children it has
pub record Listed (N : Type 0) : Type 0 where
  pub node : N
  pub children : ℕ

abbrev mutual
  pub flatten : {N : Type 0} → Tree N → List (Listed N)
  flatten (branch n ts) = record { node = n; children = count ts } ∷ flatten_all ts

  pub flatten_all : {N : Type 0} → Trees N → List (Listed N)
  flatten_all none = []
  flatten_all (more t ts) = flatten t ++ flatten_all ts
