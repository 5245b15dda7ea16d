-- The items of all entries in one list, in which each entry has a stretch.
use Rattle.std.specs.Prelude.{ℕ, ◌≤◌, List, length}
use Rattle.std.specs.List.{AllByRecursion}

-- The stretch of each entry comes before the items from here on, which are not complete yet.
pub record AreStretches {E T : Type 0} (start end : E
    → ℕ) (entries : List E) (items : List T) (from : ℕ) : Type 0 where
  pub within : from ≤ length items
  pub ordered : AllByRecursion (λ e. (start e ≤ end e) × (end e ≤ from)) entries
