-- The pure strategy profiles of a strategic form, in the order of its files.
use Rattle.std.specs.Prelude.{ℕ, zero, suc, ◌+◌, ◌*◌, List, [], ◌∷◌, map}
use Rattle.std.specs.List.{flat_map}

-- this many numbers, from this one on
abbrev pub numbers_from : ℕ → ℕ → List ℕ
numbers_from first zero = []
numbers_from first (suc n) = first ∷ numbers_from (first + 1) n

-- 1 to n
abbrev pub positions : ℕ → List ℕ
positions n = numbers_from 1 n

-- For players with this many strategies each: one strategy for each player, by its position. The
-- first player's advances fastest.
abbrev pub profiles : List ℕ → List (List ℕ)
profiles [] = [] ∷ []
profiles (count ∷ counts) =
    flat_map (λ others. map (λ s. s ∷ others) (positions count)) (profiles counts)

-- how many profiles there are
abbrev pub product : List ℕ → ℕ
product [] = 1
product (count ∷ counts) = count * product counts
