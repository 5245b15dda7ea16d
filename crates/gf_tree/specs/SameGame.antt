-- Which games are the same except for their numbers.
use Rattle.std.specs.Prelude.{◌≡◌}
use Rattle.gf_tree.specs.Game.{Game}
use Rattle.gf_tree.specs.Renumbering.{Renumbering, IsRenumbering, renumbered}

-- with these new numbers in place of the old, the one game is the other
pub record Carries (r : Renumbering) (g h : Game) : Type 0 where
  pub renumbering : IsRenumbering g r
  pub image : renumbered r g ≡ h

-- some renumbering carries the one to the other
abbrev pub SameGame : Game → Game → Type 0
SameGame g h = (r : Renumbering) × Carries r g h
