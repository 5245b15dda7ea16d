-- The game that an extensive file means.
use Rattle.std.specs.Prelude.{ℕ, nat_eq, List, Option}
use Rattle.std.specs.List.{filter_map}
use Rattle.gf_tree.specs.Tree.{Tree}
use Rattle.gf_tree.specs.PrefixOrder.{flatten}
use Rattle.gf_tree.specs.Description.{SetKey, InformationSet, Outcome, same_set}
use Rattle.gf_tree.specs.FiniteMap.{Described, description_at}

-- A terminal node has no set, and a node may have no outcome.
pub record Node : Type 0 where
  pub name : List ℕ
  pub set : Option SetKey
  pub outcome : Option ℕ

-- `sets` and `outcomes` are the finite maps from the keys in the tree to their descriptions. Their
-- entries are in order of first use, so each map has only one list.
pub record Game : Type 0 where
  pub title : List ℕ
  pub comment : List ℕ
  pub players : List (List ℕ)
  pub tree : Tree Node
  pub sets : List (Described SetKey InformationSet)
  pub outcomes : List (Described ℕ Outcome)

-- the keys in the tree, in prefix order
abbrev pub used_sets : Tree Node → List SetKey
used_sets tree = filter_map (λ e. e.node.set) (flatten tree)

abbrev pub used_outcomes : Tree Node → List ℕ
used_outcomes tree = filter_map (λ e. e.node.outcome) (flatten tree)

abbrev pub set_at : Game → SetKey → Option InformationSet
set_at g key = description_at same_set g.sets key

abbrev pub outcome_at : Game → ℕ → Option Outcome
outcome_at g number = description_at nat_eq g.outcomes number
