-- The positions of an extensive file: what is due there.
use Rattle.std.specs.Prelude.{ℕ, Bool, List}
use Rattle.gf_fraction.specs.Ratio.{Ratio}
use Rattle.gf_tree.specs.Description.{Action, InformationSet, Outcome, SetKey}

pub data Position : Type 0 where
  Format : Position
  Version : Position
  Letter : Position
  Title : Position
  BeforePlayers : Position
  InPlayers : Position
  AfterPlayers : Position
  -- the letter of a node; after the last one, the end
  Node : Position
  -- after this letter
  NodeName : List ℕ → Position
  Player : Position
  -- of a set of this player
  SetNumber : ℕ → Position
  NewSetName : SetKey → Position
  NewSetOpening : SetKey → List ℕ → Position
  -- after the name and these actions, whose probabilities have this sum
  NewAction : SetKey → InformationSet → Ratio → Position
  -- after this label too
  NewProbability : SetKey → InformationSet → Ratio → List ℕ → Position
  -- the name of a known set, or the number of the outcome
  KnownSetName : InformationSet → Position
  -- these actions are left
  KnownSetOpening : List Action → Position
  KnownAction : List Action → Position
  KnownProbability : Ratio → List Action → Position
  OutcomeNumber : Position
  NewOutcomeName : ℕ → Position
  NewOutcomeOpening : ℕ → List ℕ → Position
  -- after the name and these payoffs, so many are left; and whether a comma may come before the next
  NewPayoff : Bool → ℕ → Outcome → ℕ → Position
  -- the name of a known outcome, or what may follow the node
  KnownOutcomeName : Outcome → Position
  -- these payoffs are left
  KnownOutcomeOpening : List Ratio → Position
  KnownPayoff : Bool → List Ratio → Position
