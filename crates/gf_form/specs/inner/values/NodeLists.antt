-- The nodes of a game in a list in which the children of a node stand one after another, and the
-- values of those subtrees that no choice changes.
use Rattle.std.specs.Prelude.{◌≡◌, ◌+◌, ◌<◌, ℕ, List, None, Some, IfSome, get_or, length, map}
use Rattle.std.specs.Prelude.{slice_get}
use Rattle.std.specs.List.{AllByRecursion}
use Rattle.gf_tree.specs.Branches.{game_of, tree_of}
use Rattle.gf_tree.specs.Game.{Game, Node}
use Rattle.gf_tree.specs.Subtrees.{child_trees}
use Rattle.gf_tree.specs.Tree.{Tree}
use Rattle.gf_tree.specs.declared.game.branch.Branch.{Branch}
use Rattle.gf_form.specs.inner.values.Still.{IsStillRow}
use Rattle.gf_form.specs.declared.values.nodes.Nodes.{Nodes}

abbrev pub trees_in : Nodes → List (Tree Node)
trees_in ns = map tree_of ns.branches.items

-- the tree below the node at a place, from 0; the whole tree if there is no such node
abbrev pub tree_at : Game → Nodes → ℕ → Tree Node
tree_at g ns at = get_or (trees_in ns) at g.tree

-- nodes of a game
abbrev pub AreOf : Game → List Branch → Type 0
AreOf g branches = AllByRecursion (λ b. game_of b ≡ g) branches

-- from this place on stand the children of a tree
abbrev pub StandFrom : List (Tree Node) → ℕ → Tree Node → Type 0
StandFrom trees first t = (k : ℕ) (child : Tree Node) → slice_get (child_trees t) k ≡ Some child
    → slice_get trees (first + k) ≡ Some child

-- the root of the game is the first of them, the children of each stand from its place on, and a
-- row is that of the subtree there
pub record AreNodesOf (g : Game) (ns : Nodes) : Type 0 where
  pub games : AreOf g ns.branches.items
  pub root : slice_get (trees_in ns) 0 ≡ Some g.tree
  pub one_each : length ns.firsts.items ≡ length ns.branches.items
  pub children : (at : ℕ) → at < length ns.branches.items
      → StandFrom (trees_in ns) (get_or ns.firsts.items at 0) (tree_at g ns at)
  pub still : (at : ℕ) → IfSome (get_or ns.still.items at None)
      (λ row. IsStillRow g (tree_at g ns at) row.items)
