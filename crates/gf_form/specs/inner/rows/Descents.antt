-- What a walk down a tree meets, and what is left of it while the walk goes on: each node hands a
-- state to each of its children that is entered.
use Rattle.std.specs.Prelude.{ℕ, ◌+◌, ◌*◌, ◌/◌, ◌%◌, ◌^◌, ◌==◌, ◌||◌, ◌++◌, not, Bool, List, []}
use Rattle.std.specs.Prelude.{◌∷◌, Option, Some, None, if◌then◌else◌, option_map, suc, length, map}
use Rattle.std.specs.Prelude.{unwrap_or}
use Rattle.std.specs.Option.{option_map_or}
use Rattle.gf_tree.specs.Tree.{Tree, Trees, count}
use Rattle.gf_tree.specs.Tree.Tree.{branch}
use Rattle.gf_tree.specs.Tree.Trees.{none, more}
use Rattle.gf_tree.specs.Description.{SetKey}
use Rattle.gf_tree.specs.Game.{Game, Node}
use Rattle.gf_token.specs.Positions.{at_position}
use Rattle.gf_tree.specs.Branches.{game_of, tree_of}
use Rattle.gf_tree.specs.BranchesLeft.{branches_given, branches_left, game_of_branches}
use Rattle.gf_tree.specs.KeysInOrder.{player_keys}
use Rattle.gf_tree.specs.Subtrees.{root_node}
use Rattle.gf_tree.specs.declared.game.branch.Branch.{Branch}
use Rattle.gf_form.specs.inner.values.Values.{trees_of}
use Rattle.gf_form.specs.Strategies.{choice_at, choices_by, strategy_at}
use Rattle.gf_form.specs.declared.rows.descent.Descent.{Descent}
use Rattle.gf_form.specs.declared.rows.descent.Open.{Open}
use Rattle.gf_form.specs.declared.rows.descent.Steps.{Steps}
use Rattle.gf_form.specs.declared.rows.descent.Steps.TheVariants.{All, Own}

-- what a node of this set, with so many children, hands from its state to the child at a position;
-- none if it is not entered
abbrev pub Entering : Type 0 → Type 0
Entering S = Node → SetKey → ℕ → S → ℕ → Option S

-- a node that a walk meets, and its state
pub record Stop (S : Type 0) : Type 0 where
  pub game : Game
  pub node : Node
  pub state : S

abbrev pub stop_at : {S : Type 0} → Game → Node → S → Stop S
stop_at g n s = record { game = g; node = n; state = s }

abbrev mutual
  -- the nodes that are entered in prefix order, with their states
  pub descent : {S : Type 0} → Game → Entering S → S → Tree Node → List (Stop S)
  descent g enter s (branch n ts) = stop_at g n s
      ∷ option_map_or (λ key. descent_all g enter (enter n key (count ts) s) 1 ts) n.set []

  -- those in these children, by the state of each; the first one has position k
  pub descent_all : {S : Type 0} → Game → Entering S → (ℕ → Option S) → ℕ → Trees Node
      → List (Stop S)
  descent_all g enter states k none = []
  descent_all g enter states k (more t ts) =
      option_map_or (λ s. descent g enter s t) (states k) []
      ++ descent_all g enter states (k + 1) ts

-- the action that is demanded at the digit with this step, if there are this many actions; 0 if any
-- will do
abbrev pub demanded : ℕ → ℕ → ℕ → ℕ
demanded demands step actions = demands / step % (actions + 1)

-- What the path to the child at this position demands, in 64 bits, if that to its parent has these
-- demands, among them this action, or 0, at a digit with this step. None if that is another action.
abbrev pub demands_below : ℕ → ℕ → ℕ → ℕ → Option ℕ
demands_below demands step action k =
    if action == 0 then Some ((demands + k * step) % 2 ^ 64)
    else if k == action then Some demands else None

-- what a walk goes by: the demands of states, and what is handed to a child with demands
pub record Handing (S : Type 0) : Type 0 where
  pub demands : S → ℕ
  pub below : Game → Node → S → ℕ → ℕ → S

-- by the demands of states and what is handed to a child with demands, if each set has the step of
-- its digit, or 0
abbrev pub demanding : {S : Type 0} → Handing S → Game → (SetKey → ℕ) → Entering S
demanding h g steps n key m s k =
    option_map (h.below g n s k) (demands_below (h.demands s) (steps key)
    (demanded (h.demands s) (steps key) m) k)

-- the action at this position is chosen, or the set is not of those at which choices are made
abbrev pub comes_by : (SetKey → Bool) → (SetKey → ℕ) → SetKey → ℕ → Bool
comes_by owns choose key k = not (owns key) || choose key == k

-- by the choices alone, where the demands stay as they are
abbrev pub choosing : {S : Type 0} → Handing S → Game → (SetKey → Bool) → (SetKey → ℕ) → Entering S
choosing h g owns choose n key m s k =
    if comes_by owns choose key k then Some (h.below g n s k (h.demands s)) else None

-- the nodes whose states pass, without the demands of these
abbrev pub kept : {S : Type 0} → (S → Bool) → (S → S) → List (Stop S) → List (Stop S)
kept is_met free [] = []
kept is_met free (v ∷ vs) =
    if is_met v.state then stop_at v.game v.node (free v.state) ∷ kept is_met free vs
    else kept is_met free vs

-- ---- what is left

-- the step of the digit of a player's set at this position, from 1; 0 if there is none
abbrev pub step_at : Steps → ℕ → ℕ → ℕ
step_at (All steps) player position =
    unwrap_or (at_position (strategy_at (map (λ own. own.items) steps.now) player) position) 0
step_at (Own own steps) player position =
    if player == own then unwrap_or (at_position steps.now position) 0 else 0

-- the step of the digit of a player's set, if their sets have these; 0 if it is not theirs
abbrev pub own_step : Game → ℕ → List ℕ → SetKey → ℕ
own_step g player steps key =
    if key.player == player then choice_at (player_keys g player) steps key else 0

-- the same by the set
abbrev pub steps_by : Game → Steps → SetKey → ℕ
steps_by g (All steps) key = choices_by g (map (λ own. own.items) steps.now) key
steps_by g (Own player steps) key = own_step g player steps.now key

-- the nodes of a tree that are met, from this state on
abbrev pub stops : {S : Type 0} → Handing S → Steps → Game → S → Tree Node → List (Stop S)
stops h steps g s t = descent g (demanding h g (steps_by g steps)) s t

-- those below the children that are left at an open node
abbrev pub open_stops : {S : Type 0} → Handing S → Steps → Open S → List (Stop S)
open_stops h steps o =
    let g = game_of_branches o.rest in
    descent_all g (demanding h g (steps_by g steps))
    (λ k. option_map (h.below (game_of o.node) (root_node (tree_of o.node)) o.state k)
    (demands_below (h.demands o.state) o.step o.action k))
    (branches_given o.rest + 1) (trees_of (branches_left o.rest))

-- among the open nodes, the last one comes first
abbrev pub below : {S : Type 0} → Handing S → Steps → List (Open S) → List (Stop S) → List (Stop S)
below h steps [] vs = vs
below h steps (o ∷ os) vs = below h steps os (open_stops h steps o ++ vs)

abbrev pub next_stops : {S : Type 0} → Handing S → Steps → Option (Branch × S) → List (Stop S)
next_stops h steps None = []
next_stops h steps (Some next) = stops h steps (game_of next.0) next.1 (tree_of next.0)

-- what the open nodes are followed by
abbrev pub stops_after : {S : Type 0} → Handing S → Descent S → List (Stop S)
stops_after h d = below h d.steps d.open.items []

-- all that is left
abbrev pub stops_left : {S : Type 0} → Handing S → Descent S → List (Stop S)
stops_left h d = next_stops h d.steps d.next ++ stops_after h d

-- how many turns can come before a node is given
abbrev pub open_turns : {S : Type 0} → Open S → ℕ
open_turns o = suc (length (branches_left o.rest))

abbrev pub turns : {S : Type 0} → List (Open S) → ℕ
turns [] = 0
turns (o ∷ os) = open_turns o + turns os

abbrev pub turns_left : {S : Type 0} → Descent S → ℕ
turns_left d = option_map_or (λ next. 0) d.next (suc (turns d.open.items))
