-- Positions and places.
use Rattle.gf_tree.proofs.Common.{◌≡◌, ℕ, ◌-◌, ◌<◌, List, arith, at_position, slice_get}

-- from 1 on, a position is one more than a place
pub at_index : {A : Type 0} (items : List A) (i : ℕ) → 0 < i
    → at_position items i ≡ slice_get items (i - 1)
at_index items i h = grind arith
