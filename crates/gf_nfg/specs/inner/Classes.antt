-- Places of rows in classes: each place has a parent in its class, and a root is its own parent.
use Rattle.std.specs.Prelude.{◌≡◌, ◌<◌, ◌≤◌, ℕ, List, get_or, length}
use Rattle.gf_fraction.specs.Ratio.{Ratio}

-- each parent is the place itself or an earlier one
abbrev pub LeadBack : List ℕ → Type 0
LeadBack parents = (place : ℕ) → get_or parents place 0 ≤ place

-- the row at each place is that of its parent
abbrev pub ShareRows : (ℕ → List Ratio) → List ℕ → Type 0
ShareRows row parents =
    (place : ℕ) → place < length parents → row (get_or parents place 0) ≡ row place
