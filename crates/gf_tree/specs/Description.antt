-- Information sets and outcomes: what describes them, and by which numbers a file names them.
use Rattle.std.specs.Prelude.{◌≡◌, ℕ, zero, suc, pos, ◌≤ℤ◌, ◌<◌, ◌≤◌, ◌==◌, ◌&&◌, Bool, List, []}
use Rattle.std.specs.Prelude.{◌∷◌, length, Option, Some, None}
use Rattle.std.specs.List.{AllByRecursion}
use Rattle.gf_fraction.specs.Ratio.{Ratio, whole}
use Rattle.gf_fraction.specs.Sum.{AddsTo}

-- an action's label, and the probability of chance taking it; a player's action has none
pub record Action : Type 0 where
  pub label : List ℕ
  pub probability : Option Ratio

pub record InformationSet : Type 0 where
  pub name : List ℕ
  pub actions : List Action

-- one payoff for each player, in their order
pub record Outcome : Type 0 where
  pub name : List ℕ
  pub payoffs : List Ratio

-- Each player numbers their sets, from 1. Chance is player 0.
pub record SetKey : Type 0 where
  pub player : ℕ
  pub number : ℕ

abbrev pub set_of : ℕ → ℕ → SetKey
set_of player number = record { player = player; number = number }

abbrev pub same_set : SetKey → SetKey → Bool
same_set a b = a.player == b.player && a.number == b.number

-- each action has a probability, which is not negative; if these are added to a sum in their order,
-- each sum fits, and this is the last one
abbrev pub AddUpTo : Ratio → List Action → Ratio → Type 0
AddUpTo sum [] total = sum ≡ total
AddUpTo sum (a ∷ actions) total = (p next : Ratio) × (a.probability ≡ Some p) × (pos 0 ≤ℤ p.num)
    × AddsTo sum p next × AddUpTo next actions total

-- the actions of this player; player 0 is chance, whose probabilities add up to one
abbrev pub AreActions : ℕ → List Action → Type 0
AreActions zero actions = AddUpTo (whole (pos 0)) actions (whole (pos 1))
AreActions (suc player) actions = AllByRecursion (λ a. a.probability ≡ None) actions

-- among this many players: a set of one of them or of chance, with a number from 1 and at least one
-- action
pub record IsSet (players : ℕ) (key : SetKey) (set : InformationSet) : Type 0 where
  pub player : key.player ≤ players
  pub number : 0 < key.number
  pub some_action : 0 < length set.actions
  pub actions : AreActions key.player set.actions

-- an outcome, with a number from 1 and a payoff for each player
pub record IsOutcome (players : ℕ) (number : ℕ) (outcome : Outcome) : Type 0 where
  pub number_from_one : 0 < number
  pub one_payoff_each : length outcome.payoffs ≡ players

-- a set and an outcome by their parts
abbrev pub set_with : List ℕ → List Action → InformationSet
set_with name actions = record { name = name; actions = actions }

abbrev pub outcome_with : List ℕ → List Ratio → Outcome
outcome_with name payoffs = record { name = name; payoffs = payoffs }
