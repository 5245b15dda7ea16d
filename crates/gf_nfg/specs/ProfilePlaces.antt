-- Which lists are profiles, and the place of each of them.
use Rattle.std.specs.Prelude.{ℕ, ◌+◌, ◌-◌, ◌*◌, ◌≤◌, List, ◌∷◌}
use Rattle.std.specs.List.{AllZip}

-- one of this many strategies for each player, counted from 1
abbrev pub IsProfile : List ℕ → List ℕ → Type 0
IsProfile counts profile = AllZip (λ s count. (1 ≤ s) × (s ≤ count)) profile counts

-- its place, from 0: the first player's next strategy is one place further on, the second player's
-- next strategy as many places as the first player has strategies, and so on
abbrev pub place : List ℕ → List ℕ → ℕ
place (count ∷ counts) (s ∷ others) = s - 1 + count * place counts others
place _ _ = 0
