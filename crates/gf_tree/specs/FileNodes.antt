-- How a file gives the nodes of a game: each use of a set or an outcome is described exactly when
-- its key was not used before.
use Rattle.std.specs.Prelude.{nat_eq, Bool, List, [], ◌∷◌, map, Option, None, option_map}
use Rattle.std.specs.Prelude.{if◌then◌else◌}
use Rattle.std.specs.List.{filter_map, list_any}
use Rattle.gf_tree.specs.PrefixOrder.{Listed, flatten}
use Rattle.gf_tree.specs.Description.{same_set}
use Rattle.gf_tree.specs.FileTree.{Use, FileNode}
use Rattle.gf_tree.specs.Game.{Node, Game, set_at, outcome_at}

-- each item with those before it
abbrev pub with_those_before : {A : Type 0} → List A → List (List A × A)
with_those_before [] = []
with_those_before (x ∷ xs) = ([], x) ∷ map (λ p. (x ∷ p.0, p.1)) (with_those_before xs)

-- a use of this key after uses of those, described if it is the first
abbrev pub use_after : {K D : Type 0} → (K → K → Bool) → (K → Option D) → List K → K → Use K D
use_after same description before key =
    record { key = key; description = if list_any (same key) before then None else description key }

-- a node after those
abbrev pub node_after : Game → List (Listed Node) → Node → FileNode
node_after g before n = record {
  name = n.name;
  set = option_map (use_after same_set (set_at g) (filter_map (λ e. e.node.set) before)) n.set;
  outcome = option_map (use_after nat_eq (outcome_at g) (filter_map (λ e. e.node.outcome) before))
      n.outcome;
}

-- the nodes in prefix order
abbrev pub file_nodes : Game → List FileNode
file_nodes g = map (λ p. node_after g p.0 p.1.node) (with_those_before (flatten g.tree))
