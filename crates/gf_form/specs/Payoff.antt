-- What the players are paid at a profile: the sum over the plays that follow it.
use Rattle.std.specs.Prelude.{ℕ, map, Option, unwrap_or, option_and_then, filter}
use Rattle.gf_fraction.specs.Ratio.{Ratio}
use Rattle.gf_fraction.specs.Rational.{zero_ratio, one_ratio, times, total, ratio_product}
use Rattle.gf_token.specs.Positions.{at_position}
use Rattle.gf_tree.specs.Description.{Action, SetKey}
use Rattle.gf_tree.specs.Game.{Node, Game, set_at, outcome_at}
use Rattle.gf_form.specs.Plays.{Step, Play, plays, nodes_of, follows}

-- the action that is taken
abbrev pub action_at : Game → Step → Option Action
action_at g s =
    option_and_then (λ key. option_and_then (λ set. at_position set.actions s.taken) (set_at g key))
    s.node.set

-- its probability if chance moves, and one if a player does
abbrev pub probability : Game → Step → Ratio
probability g s = unwrap_or (option_and_then (λ a. a.probability) (action_at g s)) one_ratio

-- what a node's outcome pays the player, and zero if it has none
abbrev pub payoff_at : Game → ℕ → Node → Ratio
payoff_at g player n = unwrap_or (option_and_then (λ number.
    option_and_then (λ outcome. at_position outcome.payoffs player) (outcome_at g number))
    n.outcome) zero_ratio

-- the product of the probabilities of its chance moves
abbrev pub play_probability : Game → Play → Ratio
play_probability g play = ratio_product (map (probability g) play.steps)

-- the sum of the payoffs of its outcomes
abbrev pub play_payoff : Game → ℕ → Play → Ratio
play_payoff g player play = total (map (payoff_at g player) (nodes_of play))

-- the sum, over the plays that follow these choices, of probability times payoff
abbrev pub payoff : Game → (SetKey → ℕ) → ℕ → Ratio
payoff g choices player =
    total (map (λ play. times (play_probability g play) (play_payoff g player play))
    (filter (follows choices) (plays g.tree)))
