-- A text that is given piece by piece.
use Rattle.std.specs.Prelude.{◌≡◌, ℕ, Bool, true, List, []}

-- what was given last, what is still to come, and whether there is room for all of that
pub record TextLeft : Type 0 where
  pub piece : List ℕ
  pub rest : List ℕ
  pub has_room : Bool

-- nothing is given yet, and there is room for all
abbrev pub IsUngiven : TextLeft → Type 0
IsUngiven text = (text.piece ≡ []) × (text.has_room ≡ true)
