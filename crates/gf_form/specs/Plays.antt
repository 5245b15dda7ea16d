-- Plays: the paths from the root of a game to its leaves.
use Rattle.std.specs.Prelude.{◌≡◌, ℕ, ◌+◌, ◌<◌, ◌≤◌, ◌==◌, ◌||◌, Bool}
use Rattle.std.specs.Prelude.{true, List, [], ◌∷◌, ◌++◌, length, map, Some}
use Rattle.std.specs.List.{list_all}
use Rattle.std.specs.Option.{option_map_or}
use Rattle.gf_tree.specs.Tree.{Tree, Trees}
use Rattle.gf_tree.specs.Tree.Tree.{branch}
use Rattle.gf_tree.specs.Tree.Trees.{none, more}
use Rattle.gf_tree.specs.Description.{SetKey, InformationSet}
use Rattle.gf_tree.specs.Game.{Node, Game, set_at}

-- a node, and the child that is taken there, by its position from 1
pub record Step : Type 0 where
  pub node : Node
  pub taken : ℕ

pub record Play : Type 0 where
  pub steps : List Step
  pub leaf : Node

-- a play of a child, from the parent on
abbrev pub from_node : Node → ℕ → Play → Play
from_node n k play =
    record { steps = record { node = n; taken = k } ∷ play.steps; leaf = play.leaf }

-- all plays, in the order of their leaves
abbrev mutual
  pub plays : Tree Node → List Play
  plays (branch n none) = record { steps = []; leaf = n } ∷ []
  plays (branch n (more t ts)) = plays_from n 1 (more t ts)

  -- those that take one of these children of a node; the first one has position k
  pub plays_from : Node → ℕ → Trees Node → List Play
  plays_from n k none = []
  plays_from n k (more t ts) = map (from_node n k) (plays t) ++ plays_from n (k + 1) ts

abbrev pub nodes_of : Play → List Node
nodes_of play = map (λ s. s.node) play.steps ++ play.leaf ∷ []

-- chance moves here, or the action taken is the one chosen at the set
abbrev pub is_chosen : (SetKey → ℕ) → Step → Bool
is_chosen choices s =
    option_map_or (λ key. key.player == 0 || choices key == s.taken) s.node.set true

-- a play follows a profile if each personal move on it is the profile's choice
abbrev pub follows : (SetKey → ℕ) → Play → Bool
follows choices play = list_all (is_chosen choices) play.steps

-- an action, by its position, at each of the players' sets
abbrev pub HasActions : Game → (SetKey → ℕ) → Type 0
HasActions g choices = (key : SetKey) (set : InformationSet) → set_at g key ≡ Some set
    → 0 < key.player → (1 ≤ choices key) × (choices key ≤ length set.actions)

-- two plays have the same steps to a node at which chance moves, and take different children there
pub record PartAtChance (p q : Play) : Type 0 where
  pub common : List Step
  pub node : Node
  pub number : ℕ
  pub chance : node.set ≡ Some (record { player = 0; number = number })
  pub first : ℕ
  pub second : ℕ
  pub differ : ¬ (first ≡ second)
  pub first_rest : List Step
  pub second_rest : List Step
  pub first_steps : p.steps ≡ common ++ record { node = node; taken = first } ∷ first_rest
  pub second_steps : q.steps ≡ common ++ record { node = node; taken = second } ∷ second_rest
