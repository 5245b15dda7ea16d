-- Rows of numbers, one for each player. In an empty row each is zero.
use Rattle.std.specs.Prelude.{◌≡◌, ℕ, suc, ◌<◌, List, [], get_or, length, option_and_then}
use Rattle.std.specs.Prelude.{unwrap_or}
use Rattle.std.specs.List.{AllByRecursion}
use Rattle.gf_fraction.specs.Ratio.{Ratio, IsFraction}
use Rattle.gf_fraction.specs.Rational.{zero_ratio}
use Rattle.gf_token.specs.Positions.{at_position}
use Rattle.gf_tree.specs.KeysInOrder.{outcome_numbers}
use Rattle.gf_tree.specs.Game.{Game, Node, outcome_at}
use Rattle.gf_tree.specs.OutcomePositions.{position_among}

-- the position of a node's outcome
abbrev pub paid_at_node : Game → Node → ℕ
paid_at_node g n = position_among (outcome_numbers g) n.outcome

-- what the outcome with this position pays a player
abbrev pub paid : Game → ℕ → ℕ → Ratio
paid g player position = unwrap_or (option_and_then (λ number.
    option_and_then (λ outcome. at_position outcome.payoffs player) (outcome_at g number))
    (at_position (outcome_numbers g) position)) zero_ratio

-- the number at a place, from 0
abbrev pub at_place : List Ratio → ℕ → Ratio
at_place row k = get_or row k zero_ratio

-- fractions, one for each of this many players, or none
pub record IsRow (players : ℕ) (row : List Ratio) : Type 0 where
  pub one_each : 0 < length row → length row ≡ players
  pub fractions : AllByRecursion IsFraction row

-- the row at a position, from 1; if there is no such position, an empty row
abbrev pub row_at : List (List Ratio) → ℕ → List Ratio
row_at rows position = unwrap_or (at_position rows position) []

-- for each outcome of the game, by its position, a row of what it pays
pub record ArePaid (g : Game) (rows : List (List Ratio)) : Type 0 where
  pub paid_is : (position k : ℕ) → at_place (row_at rows position) k ≡ paid g (suc k) position
  pub row : (position : ℕ) → IsRow (length g.players) (row_at rows position)
