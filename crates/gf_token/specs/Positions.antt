-- Positions in a list, counted from 1.
use Rattle.std.specs.Prelude.{ℕ, zero, suc, List, Option, None, slice_get}

-- the item at this position; at 0 there is none
abbrev pub at_position : {A : Type 0} → List A → ℕ → Option A
at_position items zero = None
at_position items (suc k) = slice_get items k
