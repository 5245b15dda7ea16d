-- Trees that are skipped by the sizes of their subtrees.
use Rattle.std.specs.Prelude.{ℕ, zero, suc, ◌+◌, ◌≤◌, List, [], ◌∷◌, drop, length}

-- these sizes begin with this many trees, each with as many sizes as its first one says
abbrev pub Begin : ℕ → List ℕ → Type 0
Begin zero sizes = Unit {0}
Begin (suc n) [] = ⊥
Begin (suc n) (s ∷ sizes) = (s ≤ suc (length sizes)) × Begin n (drop s (s ∷ sizes))

-- how many nodes the first n trees have
abbrev pub skipped : ℕ → List ℕ → ℕ
skipped zero sizes = 0
skipped (suc n) [] = 0
skipped (suc n) (s ∷ sizes) = s + skipped n (drop s (s ∷ sizes))

-- the sizes of subtrees, from numbers of children
abbrev pub sizes_grown : List ℕ → List ℕ
sizes_grown [] = []
sizes_grown (c ∷ counts) = suc (skipped c (sizes_grown counts)) ∷ sizes_grown counts
