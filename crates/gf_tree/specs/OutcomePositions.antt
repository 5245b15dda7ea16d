-- The position of a node's outcome among the outcomes of its game.
use Rattle.std.specs.Prelude.{ℕ, suc, nat_eq, position, List, Option, Some, None}

-- one more than a place; 0 if there is none
abbrev pub position_at : Option ℕ → ℕ
position_at None = 0
position_at (Some place) = suc place

-- the first position of a number, from 1; 0 if it does not occur, or if there is no number
abbrev pub position_among : List ℕ → Option ℕ → ℕ
position_among numbers None = 0
position_among numbers (Some number) = position_at (position (nat_eq number) numbers)
