-- What is left of the value of a tree while a walk evaluates it.
use Rattle.std.specs.Prelude.{◌≡◌, ◌<◌, ◌+◌, ◌*◌, ℕ, suc, List, [], ◌∷◌, drop, length, Option}
use Rattle.std.specs.Prelude.{None, Some}
use Rattle.gf_fraction.specs.Ratio.{Ratio}
use Rattle.gf_tree.specs.Branches.{game_of, tree_of}
use Rattle.gf_tree.specs.Description.{SetKey}
use Rattle.gf_tree.specs.Game.{Node}
use Rattle.gf_tree.specs.PrefixOrder.{flatten, flatten_all}
use Rattle.gf_tree.specs.Subtrees.{child_trees, root_node}
use Rattle.gf_tree.specs.Tree.{Tree, Trees}
use Rattle.gf_tree.specs.declared.game.branch.Branch.{Branch}
use Rattle.gf_form.specs.Payoff.{payoff_at}
use Rattle.gf_form.specs.inner.values.ChoicesGiven.{AreChoices, chosen_by}
use Rattle.gf_form.specs.inner.values.NodeLists.{AreNodesOf, tree_at}
use Rattle.gf_form.specs.inner.values.PaidRows.{rows_of}
use Rattle.gf_form.specs.inner.values.Rows.{ArePaid, IsRow, at_place}
use Rattle.gf_form.specs.inner.values.Values.{chance_value, chances_at, plus_of, times_of}
use Rattle.gf_form.specs.inner.values.Values.{trees_of, value}
use Rattle.gf_form.specs.declared.values.walk.Next.{Next}
use Rattle.gf_form.specs.declared.values.walk.Next.TheVariants.{Child, Value}
use Rattle.gf_form.specs.declared.values.walk.Open.{Open}
use Rattle.gf_form.specs.declared.values.walk.Open.TheVariants.{Chance, Choice}
use Rattle.gf_form.specs.declared.values.walk.Walk.{Walk}

-- the probabilities at a branch's root
abbrev pub branch_chances : Branch → ℕ → Ratio
branch_chances b = chances_at (game_of b) (root_node (tree_of b))

-- what a walk goes by is that of its game
pub record IsWalk (w : Walk) : Type 0 where
  pub paid : ArePaid w.game.now (rows_of w.payoffs.now)
  pub nodes : AreNodesOf w.game.now w.nodes.now
  pub choices : AreChoices w.game.now w.choices

-- there is a node at this place
abbrev pub IsThere : Walk → ℕ → Type 0
IsThere w node = node < length w.nodes.now.branches.items

abbrev pub tree_there : Walk → ℕ → Tree Node
tree_there w node = tree_at w.game.now w.nodes.now node

abbrev pub node_there : Walk → ℕ → Node
node_there w node = root_node (tree_there w node)

-- the choices that a walk goes by
abbrev pub choices_of : Walk → SetKey → ℕ
choices_of w = chosen_by w.game.now w.choices

-- the value of a tree for the player at place k, from 0
abbrev pub tree_value : Walk → ℕ → Tree Node → Option Ratio
tree_value w k t = value w.game.now (choices_of w) (suc k) t

-- the player's payoff at a node, and what comes from below
abbrev pub with_own : Walk → ℕ → ℕ → Option Ratio → Option Ratio
with_own w k node below =
    plus_of (Some (payoff_at w.game.now (suc k) (node_there w node))) below

-- the children of a node after the first ones
abbrev pub trees_left : Walk → ℕ → ℕ → Trees Node
trees_left w node given = trees_of (drop given (child_trees (tree_there w node)))

-- the player's value at a node of chance, if this is the sum before the children that are left
abbrev pub drawn_value : Walk → ℕ → ℕ → ℕ → Option Ratio → Option Ratio
drawn_value w k node given sum =
    with_own w k node (chance_value w.game.now (choices_of w) (suc k)
    (chances_at w.game.now (node_there w node)) (given + 1) sum (trees_left w node given))

-- the player's value at an open node, if that of the child that was entered is this
abbrev pub open_value : Walk → ℕ → Open → Option Ratio → Option Ratio
open_value w k (Choice node) below = with_own w k node below
open_value w k (Chance node given sum) below =
    drawn_value w k node given (plus_of (Some (at_place sum.items k))
    (times_of (chances_at w.game.now (node_there w node) given) below))

-- the player's value at the last of these open nodes, if the first one is closed with this
abbrev pub whole_value : Walk → ℕ → List Open → Option Ratio → Option Ratio
whole_value w k [] below = below
whole_value w k (o ∷ os) below = whole_value w k os (open_value w k o below)

abbrev pub next_value : Walk → ℕ → Next → Option Ratio
next_value w k (Child node child) = open_value w k node (tree_value w k (tree_there w child))
next_value w k (Value row) = Some (at_place row.items k)

-- a node of the list, with a row for its sum
abbrev pub IsOpen : Walk → Open → Type 0
IsOpen w (Choice node) = IsThere w node
IsOpen w (Chance node given sum) = IsThere w node × IsRow (length w.game.now.players) sum.items

abbrev pub IsNext : Walk → Next → Type 0
IsNext w (Child node child) = IsOpen w node × IsThere w child
IsNext w (Value row) = IsRow (length w.game.now.players) row.items

-- measures of what is left
abbrev pub open_size : Walk → Open → ℕ
open_size w (Choice node) = 1
open_size w (Chance node given sum) = 1 + 2 * length (flatten_all (trees_left w node given))

abbrev pub next_size : Walk → Next → ℕ
next_size w (Child node child) =
    open_size w node + 2 * length (flatten (tree_there w child))
next_size w (Value row) = 1

-- the walk goes on to these values of the players, and less than this is left
abbrev pub Gives : Walk → (ℕ → Option Ratio) → ℕ → Next → Type 0
Gives w values size next =
    IsNext w next × ((k : ℕ) → values k ≡ next_value w k next) × (next_size w next < size)

-- some player has no value
abbrev pub Lacks : Walk → (ℕ → Option Ratio) → Type 0
Lacks w values = (k : ℕ) × (k < length w.game.now.players) × (values k ≡ None)
