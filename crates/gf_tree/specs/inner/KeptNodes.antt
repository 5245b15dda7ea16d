-- The nodes of a game as they are kept: one list in prefix order.
use Rattle.std.specs.Prelude.{ℕ, ◌≤◌, Option, Some, None, List, length, map, option_map}
use Rattle.std.specs.List.{AllByRecursion}
use Rattle.gf_token.specs.Label.{label_of}
use Rattle.gf_token.specs.Positions.{at_position}
use Rattle.gf_tree.specs.Tree.{Tree}
use Rattle.gf_tree.specs.PrefixOrder.{Listed}
use Rattle.gf_tree.specs.Grown.{grow, root}
use Rattle.gf_tree.specs.KeptNode.{Kept}
use Rattle.gf_tree.specs.FiniteMap.{Described}
use Rattle.gf_tree.specs.Game.{Node}
use Rattle.gf_tree.specs.inner.GameCode.{no_node}
use Rattle.gf_tree.specs.declared.game.kept.Stored.{Stored}
use Rattle.gf_tree.specs.Description.{SetKey, InformationSet, Outcome}

abbrev pub kept_of : Stored → Kept
kept_of n = record { name = label_of n.name; set = n.set; outcome = n.outcome }

abbrev pub sizes_of : List Stored → List ℕ
sizes_of nodes = map (λ n. n.size) nodes

-- how many children a node has if its set has this position
abbrev pub actions_counted : Option (Described SetKey InformationSet) → ℕ
actions_counted None = 0
actions_counted (Some s) = length s.description.actions

abbrev pub child_count : List (Described SetKey InformationSet) → ℕ → ℕ
child_count sets position = actions_counted (at_position sets position)

abbrev pub child_counts : List (Described SetKey InformationSet) → List Kept → List ℕ
child_counts sets nodes = map (λ n. child_count sets n.set) nodes

-- the node with its keys
abbrev pub node_with
    : List (Described SetKey InformationSet) → List (Described ℕ Outcome) → Kept → Node
node_with sets outcomes n = record {
  name = n.name;
  set = option_map (λ s. s.key) (at_position sets n.set);
  outcome = option_map (λ o. o.key) (at_position outcomes n.outcome);
}

abbrev pub entry_with
    : List (Described SetKey InformationSet) → List (Described ℕ Outcome) → Kept → Listed Node
entry_with sets outcomes n = record {
  node = node_with sets outcomes n;
  children = child_count sets n.set;
}

abbrev pub entries_with
    : List (Described SetKey InformationSet) → List (Described ℕ Outcome) → List Kept
    → List (Listed Node)
entries_with sets outcomes nodes = map (entry_with sets outcomes) nodes

-- the tree of the nodes
abbrev pub tree_with
    : List (Described SetKey InformationSet) → List (Described ℕ Outcome) → List Kept → Tree Node
tree_with sets outcomes nodes = root no_node (grow (entries_with sets outcomes nodes))

-- its set and its outcome are among this many
pub record IsAmong (sets outcomes : ℕ) (n : Kept) : Type 0 where
  pub set : n.set ≤ sets
  pub outcome : n.outcome ≤ outcomes

abbrev pub AreAmong : ℕ → ℕ → List Kept → Type 0
AreAmong sets outcomes nodes = AllByRecursion (IsAmong sets outcomes) nodes
