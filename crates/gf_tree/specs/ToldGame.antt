-- What a receiver was told of a game.
use Rattle.std.specs.Prelude.{◌≡◌, List, map}
use Rattle.gf_tree.specs.FileNodes.{file_nodes}
use Rattle.gf_tree.specs.FirstUse.{first_use_numbers}
use Rattle.gf_tree.specs.Game.{Game}
use Rattle.gf_tree.specs.Renumbering.{renumbered}
use Rattle.gf_tree.specs.Told.{Heading, Told, heading_in}

-- its heading, and its nodes by first-use numbers, as a file gives them
pub record HasToldGame {T : Type 0} (holds : T → Heading → List Told → Type 0) (to : T) (g : Game) :
    Type 0 where
  pub told : List Told
  pub holding : holds to (heading_in g) told
  pub nodes : map (λ t. t.node) told ≡ file_nodes (renumbered (first_use_numbers g) g)
