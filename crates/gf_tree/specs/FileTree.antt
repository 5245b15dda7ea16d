-- What an extensive file says, node by node.
use Rattle.std.specs.Prelude.{ℕ, List, Option}
use Rattle.std.specs.List.{filter_map}
use Rattle.gf_tree.specs.Tree.{Tree}
use Rattle.gf_tree.specs.PrefixOrder.{Listed}
use Rattle.gf_tree.specs.Description.{SetKey, InformationSet, Outcome}

-- a key as it stands in a file, with its description or without it
pub record Use (K D : Type 0) : Type 0 where
  pub key : K
  pub description : Option D

-- A terminal node has no set. A node with outcome number 0, the null outcome, has no outcome.
pub record FileNode : Type 0 where
  pub name : List ℕ
  pub set : Option (Use SetKey InformationSet)
  pub outcome : Option (Use ℕ Outcome)

-- Labels are lists of bytes.
pub record FileTree : Type 0 where
  pub title : List ℕ
  pub comment : List ℕ
  pub players : List (List ℕ)
  pub tree : Tree FileNode

-- the occurrences of sets, and of outcomes, in prefix order
abbrev pub set_uses : List (Listed FileNode) → List (Use SetKey InformationSet)
set_uses entries = filter_map (λ e. e.node.set) entries

abbrev pub outcome_uses : List (Listed FileNode) → List (Use ℕ Outcome)
outcome_uses entries = filter_map (λ e. e.node.outcome) entries
