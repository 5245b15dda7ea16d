-- Which flat lists are those of trees in prefix order.
use Rattle.std.specs.Prelude.{ℕ, zero, suc, ◌+◌, List, [], ◌∷◌}
use Rattle.gf_tree.specs.PrefixOrder.{Listed}

-- if this many subtrees are due, the entries are those of these subtrees and no more
abbrev pub Fills : {N : Type 0} → ℕ → List (Listed N) → Type 0
Fills zero [] = Unit {0}
Fills zero (e ∷ es) = ⊥
Fills (suc due) [] = ⊥
Fills (suc due) (e ∷ es) = Fills (e.children + due) es
