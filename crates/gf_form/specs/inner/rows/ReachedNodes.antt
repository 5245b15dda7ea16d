-- The nodes of a tree that choices can reach, in prefix order, each with what the path to it
-- demands. At a set that is met again below itself, play goes on with the action that is demanded
-- there. Below a child of probability 0, nothing counts but whether its value is defined; so what a
-- leaf pays is left out there, and where something is added, the path starts anew.
use Rattle.std.specs.Prelude.{ℕ, ◌*◌, ◌^◌, ◌==◌, ◌&&◌, ◌||◌, not, Bool, List, Option, Some, None}
use Rattle.std.specs.Prelude.{false, nat_lt, unsigned_abs, if◌then◌else◌, map}
use Rattle.std.specs.Option.{option_map_or}
use Rattle.gf_fraction.specs.Ratio.{Ratio}
use Rattle.gf_tree.specs.Tree.{Tree}
use Rattle.gf_tree.specs.Description.{SetKey}
use Rattle.gf_tree.specs.Game.{Game, Node}
use Rattle.gf_form.specs.inner.rows.Descents.{Handing, Stop, choosing, demanding, descent}
use Rattle.gf_form.specs.inner.values.Rows.{paid_at_node}
use Rattle.gf_form.specs.inner.values.Values.{chances_at}
use Rattle.gf_form.specs.declared.rows.paths.Path.{Path}

-- whether the numbers of a path still fit after an action of this probability
abbrev pub has_room : Path → Ratio → Bool
has_room path chance =
    nat_lt (path.weight * unsigned_abs chance.num) (2 ^ 128)
    && nat_lt (path.bound * unsigned_abs chance.num) (2 ^ 128)
    && nat_lt (path.den * chance.den) (2 ^ 128)

-- one step further, by an action of this probability; if the numbers do not fit, they are not
-- known, and no denominator is a multiple of that of the path
abbrev pub by_chance : Path → Ratio → Path
by_chance path chance = record {
  weight = if has_room path chance then path.weight * unsigned_abs chance.num else 0;
  bound = if has_room path chance then path.bound * unsigned_abs chance.num else 1;
  den = if has_room path chance then path.den * chance.den else 0;
  demands = path.demands;
  outcome = path.outcome;
}

-- the path on which nobody has chosen
abbrev pub root_path : Path
root_path = record { weight = 1; bound = 1; den = 1; demands = 0; outcome = 0 }

-- whether the value at a node of this set is a sum, if it pays this outcome
abbrev pub is_sum_at : ℕ → Option SetKey → Bool
is_sum_at own None = false
is_sum_at own (Some key) = key.player == 0 || nat_lt 0 own

abbrev pub is_sum : Game → Node → Bool
is_sum g n = is_sum_at (paid_at_node g n) n.set

-- a path up to its last node, if it is idle (below a child of probability 0, with no sum since) or is
-- not, and something is added there or is not
abbrev pub met_if : Bool → Bool → Path → ℕ → Path
met_if idle adds path own = record {
  weight = path.weight;
  bound = if idle && adds then 1 else path.bound;
  den = if idle && adds then 1 else path.den;
  demands = path.demands;
  outcome = if idle then (if adds then own else 0) else own;
}

-- a path up to this node, where it starts anew if it is idle and something is added
abbrev pub met_node : Game → Path → Node → Path
met_node g path n = met_if (path.bound == 0) (is_sum g n) path (paid_at_node g n)

-- a path with other demands
abbrev pub demanding_path : Path → ℕ → Path
demanding_path path demands = record {
  weight = path.weight;
  bound = path.bound;
  den = path.den;
  demands = demands;
  outcome = path.outcome;
}

-- the path to the child of a node at this position, with these demands, from the node's on
abbrev pub drawn : Game → Node → Path → ℕ → Path
drawn g n path k = if option_map_or (λ key. key.player == 0) n.set false
    then by_chance path (chances_at g n k) else path

abbrev pub path_handing : Handing Path
path_handing = record {
  demands = λ path. path.demands;
  below = λ g n path k demands. drawn g n (demanding_path (met_node g path n) demands) k;
}

abbrev pub node_at : Stop Path → Path
node_at v = met_node v.game v.state v.node

-- Each set has the step of its digit, or 0 if it has only one action.
abbrev pub reached : Game → (SetKey → ℕ) → Path → Tree Node → List Path
reached g steps path t =
    map node_at (descent g (demanding path_handing g steps) path t)

-- whether a player moves at a set
abbrev pub is_personal : SetKey → Bool
is_personal key = not (key.player == 0)

-- those that choices reach, by the choices alone
abbrev pub followed : Game → (SetKey → ℕ) → Path → Tree Node → List Path
followed g choose path t =
    map node_at (descent g (choosing path_handing g is_personal choose) path t)
