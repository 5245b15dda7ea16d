-- Trees with something at each node.
use Rattle.std.specs.Prelude.{ℕ, suc}

-- A branch is a node with the branches below it, from the first to the last.
mutual
  pub data Tree (N : Type 0) : Type 0 where
    branch : N → Trees N → Tree N

  pub data Trees (N : Type 0) : Type 0 where
    none : Trees N
    more : Tree N → Trees N → Trees N

-- how many trees there are
abbrev pub count : {N : Type 0} → Trees N → ℕ
count none = 0
count (more t ts) = suc (count ts)

-- a tree of the same shape, with another node in place of each
abbrev mutual
  pub map_tree : {N M : Type 0} → (N → M) → Tree N → Tree M
  map_tree f (branch n ts) = branch (f n) (map_trees f ts)

  pub map_trees : {N M : Type 0} → (N → M) → Trees N → Trees M
  map_trees f none = none
  map_trees f (more t ts) = more (map_tree f t) (map_trees f ts)
