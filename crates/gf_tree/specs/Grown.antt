-- The trees of a list in prefix order, grown from its last entry to its first.
use Rattle.std.specs.Prelude.{ℕ, zero, suc, List, [], ◌∷◌}
use Rattle.gf_tree.specs.Tree.{Tree, Trees}
use Rattle.gf_tree.specs.Tree.Tree.{branch}
use Rattle.gf_tree.specs.Tree.Trees.{none, more}
use Rattle.gf_tree.specs.PrefixOrder.{Listed}

-- the first n trees, and the others
abbrev pub first : {N : Type 0} → ℕ → Trees N → Trees N
first zero ts = none
first (suc n) none = none
first (suc n) (more t ts) = more t (first n ts)

abbrev pub others : {N : Type 0} → ℕ → Trees N → Trees N
others zero ts = ts
others (suc n) none = none
others (suc n) (more t ts) = others n ts

-- the first trees that have grown are the children of the next entry
abbrev pub grow : {N : Type 0} → List (Listed N) → Trees N
grow [] = none
grow (e ∷ es) = more (branch e.node (first e.children (grow es))) (others e.children (grow es))

-- the first tree, or a single node if there is none
abbrev pub root : {N : Type 0} → N → Trees N → Tree N
root n none = branch n none
root n (more t ts) = t
