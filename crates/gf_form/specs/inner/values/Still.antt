-- Subtrees whose values no choice changes.
use Rattle.std.specs.Prelude.{◌≡◌, ℕ, suc, List, Some, length}
use Rattle.gf_fraction.specs.Ratio.{Ratio}
use Rattle.gf_tree.specs.Description.{SetKey}
use Rattle.gf_tree.specs.Game.{Game, Node}
use Rattle.gf_tree.specs.Tree.{Tree}
use Rattle.gf_form.specs.inner.values.Rows.{IsRow, at_place}
use Rattle.gf_form.specs.inner.values.Values.{value}

-- the players' values of a tree are the same whatever is chosen
abbrev pub IsStill : Game → Tree Node → Type 0
IsStill g t = (choices others : SetKey → ℕ) (k : ℕ)
    → value g choices (suc k) t ≡ value g others (suc k) t

-- and they are these
pub record IsStillRow (g : Game) (t : Tree Node) (row : List Ratio) : Type 0 where
  pub is_row : IsRow (length g.players) row
  pub values : (choices : SetKey → ℕ) (k : ℕ) → value g choices (suc k) t ≡ Some (at_place row k)
