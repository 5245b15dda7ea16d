-- The game that stands for all games that are the same.
use Rattle.gf_tree.specs.Game.{Game}
use Rattle.gf_tree.specs.Renumbering.{renumbered}
use Rattle.gf_tree.specs.FirstUse.{first_use_numbers}

-- each set and each outcome by its first-use number
abbrev pub canonical_game : Game → Game
canonical_game g = renumbered (first_use_numbers g) g
