-- The sets of a player, and the outcomes, in order of first use.
use Rattle.std.specs.Prelude.{ℕ, ◌==◌, List, map}
use Rattle.std.specs.List.{filter}
use Rattle.gf_tree.specs.Description.{SetKey, InformationSet}
use Rattle.gf_tree.specs.FiniteMap.{Described}
use Rattle.gf_tree.specs.Game.{Game}

-- a player's sets in order of first use, as the game has them, and their keys
abbrev pub player_sets : Game → ℕ → List (Described SetKey InformationSet)
player_sets g player = filter (λ s. s.key.player == player) g.sets

abbrev pub player_keys : Game → ℕ → List SetKey
player_keys g player = map (λ s. s.key) (player_sets g player)

-- the numbers of the outcomes, in order of first use
abbrev pub outcome_numbers : Game → List ℕ
outcome_numbers g = map (λ o. o.key) g.outcomes
