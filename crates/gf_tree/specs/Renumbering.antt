-- New numbers for the information sets and outcomes of a game.
use Rattle.std.specs.Prelude.{◌≡◌, ℕ, ◌<◌, map, option_map}
use Rattle.std.specs.List.{Contains}
use Rattle.gf_tree.specs.Tree.{map_tree}
use Rattle.gf_tree.specs.Description.{SetKey, set_of}
use Rattle.gf_tree.specs.Game.{Node, Game, used_sets, used_outcomes}

-- The new number of each player's set, where chance is player 0, and that of each outcome. The null
-- outcome is not an outcome of a node, so it stays as it is.
pub record Renumbering : Type 0 where
  pub set : ℕ → ℕ → ℕ
  pub outcome : ℕ → ℕ

-- the player has a set with this number, and the game has an outcome with it
abbrev pub HasSet : Game → ℕ → ℕ → Type 0
HasSet g player number = Contains (used_sets g.tree) (set_of player number)

abbrev pub HasOutcome : Game → ℕ → Type 0
HasOutcome g number = Contains (used_outcomes g.tree) number

-- The new numbers are positive, and no two sets of a player get the same number, nor do two
-- outcomes. Only the game's own sets and outcomes count.
pub record IsRenumbering (g : Game) (r : Renumbering) : Type 0 where
  pub positive_sets : (player number : ℕ) → HasSet g player number → 0 < r.set player number
  pub positive_outcomes : (number : ℕ) → HasOutcome g number → 0 < r.outcome number
  pub sets_apart : (player a b : ℕ)
      → HasSet g player a → HasSet g player b → r.set player a ≡ r.set player b → a ≡ b
  pub outcomes_apart : (a b : ℕ) → HasOutcome g a → HasOutcome g b → r.outcome a ≡ r.outcome b
      → a ≡ b

-- the same player's set, by its new number
abbrev pub renumbered_set : Renumbering → SetKey → SetKey
renumbered_set r key = record key { number = r.set key.player key.number }

abbrev pub renumbered_node : Renumbering → Node → Node
renumbered_node r n = record n {
  set = option_map (renumbered_set r) n.set;
  outcome = option_map r.outcome n.outcome;
}

-- the same game by its new numbers
abbrev pub renumbered : Renumbering → Game → Game
renumbered r g = record g {
  tree = map_tree (renumbered_node r) g.tree;
  sets = map (λ s. record { key = renumbered_set r s.key; description = s.description }) g.sets;
  outcomes = map (λ o. record { key = r.outcome o.key; description = o.description }) g.outcomes;
}
