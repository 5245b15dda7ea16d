-- The payoffs of outcomes, by their positions; the nodes in a list, in which children stand one after
-- another; the value of a tree by its branches, and what is left of it during a walk.
use Rattle.gf_form.proofs.Common
use Common.{first_uses_distinct, unwrap_or-slice_get, false_from_ne_true, get_or-append_seam, AreOf}
use Common.{get_or_append_left, same_set_equality, sets_by_first_use, slice_get-get_or, AreDistinct}
use Common.{option_and_then, outcome_numbers, drop-append-le, get_or_default, reverse-append, IsRow}
use Common.{slice_get_past, length-append, not_described, slice_get-map, chance_value, paid_at_node}
use Common.{IsSpellable, MatchOption, at_position, child_trees, child_value, flatten_all, Described}
use Common.{get_or_push, player_keys, strategy_at, AreNodesOf, chances_at, choices_by, get_or-map}
use Common.{length-map, option_map, outcome_at, zero_ratio, IsOutcome, StandFrom, choice_at, Action}
use Common.{drop-cons, one_ratio, payoff_at, root_node, slice_get, unwrap_or, at_index, at_place, ℕ}
use Common.{cases_lt, drop-nil, eqb-true, position, trees_in, trees_of, ArePaid, Outcome, flatten}
use Common.{game_of, list_of, plus_of, reverse, tree_at, tree_of, Global, IsGame, Option, SetKey}
use Common.{branch, eq-eqb, get_or, has_at, length, nat_eq, row_at, set_at, sum_by, Ratio, Trees}
use Common.{arith, value, Game, List, Node, None, Some, Tree, drop, more, none, paid, refl, zero}
use Common.{◌++◌, ◌==◌, Vec, inl, inr, map, suc, sym, ◌+◌, ◌<◌, ◌∙◌, ◌∷◌, ◌≡◌, ◌≤◌, [], ap, rules}
use Common.{common_steps}
use Rattle.std.proofs.lemmas.List.Quantifiers.{position-Some}
use Rattle.gf_form.proofs.lemmas.values.ValuesComputed.{none_stays, payoffs_of}
use Rattle.gf_form.proofs.lemmas.strategies.Chosen.{each_described}
use Rattle.std.proofs.lemmas.List.Sums.{sum_by-append, sum_by-cons, sum_by_push}
use Rattle.std.proofs.lemmas.Option.{get_or_from_slice_get, slice_get_within}
use Rattle.gf_tree.specs.declared.game.branch.Branch.{Branch}
use Rattle.gf_form.proofs.lemmas.strategies.StrategiesByNumber.{all_at}
use Rattle.gf_form.specs.declared.values.nodes.Nodes.{Nodes}
use Rattle.gf_form.specs.declared.values.walk.Open.{Open}
use Rattle.gf_form.specs.declared.values.walk.Open.TheVariants.{Chance, Choice}
use Rattle.gf_form.specs.declared.values.walk.Walk.{Walk}
use Rattle.gf_form.specs.inner.values.ValueLeft.{whole_value, choices_of, node_there, open_value}
use Rattle.gf_form.specs.inner.values.ValueLeft.{tree_there, tree_value, with_own, Lacks}

-- ---- the payoffs of an outcome, by its position

place_is : (n : ℕ) (ns : List ℕ) (place : ℕ) → position (nat_eq n) ns ≡ Some place
    → slice_get ns place ≡ Some n
place_is n ns place h =
    let there = position-Some (nat_eq n) ns place 0 h in
    grind (arith, slice_get-get_or, eqb-true)

pub paid_is : (g : Game) (player : ℕ) (n : Node)
    → paid g player (paid_at_node g n) ≡ payoff_at g player n
paid_is g player n = grind (arith, not_described, place_is)

pub own_is : (g h : Game) (rows : List (List Ratio)) (n : Node) (row : List Ratio) (k : ℕ)
    → ArePaid g rows → h ≡ g → row ≡ row_at rows (paid_at_node h n)
    → at_place row k ≡ payoff_at g (suc k) n
own_is g h rows n row k paid e is = grind (arith, paid_is, paid.paid_is)

-- what stands at a position is carried along
pub at_mapped : {A B : Type 0} (f : A → B) (xs : List A) (position : ℕ)
    → at_position (map f xs) position ≡ option_map f (at_position xs position)
at_mapped f xs zero = refl
at_mapped f xs (suc k) = grind (arith, slice_get-map)

pub ruleset position_steps = (at_index, slice_get-get_or, slice_get_past)

-- ---- what an outcome pays

pub paid_some : (g : Game) (position number : ℕ) (outcome : Outcome) (k : ℕ)
    → at_position (outcome_numbers g) position ≡ Some number
    → outcome_at g number ≡ Some outcome → at_place outcome.payoffs k ≡ paid g (suc k) position
paid_some g position number outcome k e f = cc (unwrap_or-slice_get outcome.payoffs k zero_ratio)

pub row_of_outcome : (g : Game) → IsGame g → IsSpellable g → (number : ℕ) (outcome : Outcome)
    → outcome_at g number ≡ Some outcome → IsRow (length g.players) outcome.payoffs
row_of_outcome g game spellable number outcome e =
    let fractions = payoffs_of g spellable number in
    let counted = each_described (λ (o : Described ℕ Outcome).
    IsOutcome (length g.players) o.key o.description)
    (λ outcome. length outcome.payoffs ≡ length g.players) (λ o. o.description)
    (λ o. o.key == number) g.outcomes (λ o h _. h.one_payoff_each) game.each_outcome in
    grind arith

-- ---- rows that are kept one after another

-- the row at a position is that of the outcome there
pub record IsPaidAt (g : Game) (row : List Ratio) (position : ℕ) : Type 0 where
  pub paid_is : (k : ℕ) → at_place row k ≡ paid g (suc k) position
  pub row_is : IsRow (length g.players) row

-- those of this many of the first outcomes
pub record ArePaidTo (g : Game) (rows : List (List Ratio)) (count : ℕ) : Type 0 where
  pub counted : length rows ≡ count
  pub each : (position : ℕ) → position ≤ count → IsPaidAt g (row_at rows position) position

pub one_row : (g : Game) (rows : List (List Ratio)) (row : List Ratio) (count : ℕ)
    → ArePaidTo g rows count → IsPaidAt g row (count + 1)
    → ArePaidTo g (rows ++ row ∷ []) (count + 1)
one_row g rows row count are is = record {
  counted =
      let counted = are.counted in
      omega (arith, counted, length-append rows (row ∷ []));
  each = λ position h. by position h;
}
  where
    by : (position : ℕ) → position ≤ count + 1
        → IsPaidAt g (row_at (rows ++ row ∷ []) position) position
    by zero h = are.each 0 (omega arith)
    by (suc k) h = elim (cases_lt k count) [
      | inl less ↦
          let kept = are.each (suc k) (omega (arith, less)) in
          let counted = are.counted in grind (arith, unwrap_or-slice_get, get_or_append_left)
      | inr beyond ↦ let counted = are.counted in grind (arith, unwrap_or-slice_get, get_or_push)
    ]

pub all_rows : (g : Game) (rows : List (List Ratio)) → ArePaidTo g rows (length (outcome_numbers g))
    → ArePaid g rows
all_rows g rows are = grind (arith, slice_get_past, cases_lt)

pub below_players : (players k : ℕ) (row : List Ratio) → k < length row → IsRow players row
    → k < players
below_players players k row less is = grind arith

-- ---- the value of a tree by the list of its children

pub trees_of_list : {N : Type 0} (ts : Trees N) → trees_of (list_of ts) ≡ ts
trees_of_list none = refl
trees_of_list (more t ts) = ap (more t) (trees_of_list ts)

module _ (g : Game) (choices : SetKey → ℕ) (player : ℕ) where
  value_there : (ts : Trees Node) (position : ℕ) → child_value g choices player position ts
      ≡ option_and_then (value g choices player) (at_position (list_of ts) position)
  value_there (more t ts) (suc (suc position)) = value_there ts (suc position)
  value_there ts position = grind arith

  pub value_of_leaf : (t : Tree Node) → (root_node t).set ≡ None
      → value g choices player t ≡ Some (payoff_at g player (root_node t))
  value_of_leaf (branch n ts) is = grind (arith, is)

  pub value_by_chance : (t : Tree Node) (key : SetKey) → (root_node t).set ≡ Some key
      → key.player ≡ 0
      → value g choices player t ≡ plus_of (Some (payoff_at g player (root_node t)))
      (chance_value g choices player (chances_at g (root_node t)) 1 (Some zero_ratio)
      (trees_of (child_trees t)))
  value_by_chance (branch n ts) key is chance = grind (arith, is, eq-eqb, trees_of_list)

  pub value_by_choice : (t : Tree Node) (key : SetKey) → (root_node t).set ≡ Some key
      → ¬ (key.player ≡ 0)
      → value g choices player t ≡ plus_of (Some (payoff_at g player (root_node t)))
      (option_and_then (value g choices player) (at_position (child_trees t) (choices key)))
  value_by_choice (branch n ts) key is personal = grind (arith, is, false_from_ne_true, value_there)

-- ---- what is open

-- the node that is opened last comes first
pub turned : (os items : List Open) (o : Open) → items ≡ os ++ o ∷ []
    → reverse items ≡ o ∷ reverse os
turned os items o are = grind (arith, are, reverse-append)

module _ (w : Walk) where
  -- a value that is not defined stays so
  open_none : (k : ℕ) (o : Open) → open_value w k o None ≡ None
  open_none k (Choice node) = refl
  open_none k (Chance node given sum) = grind (arith, none_stays)

  whole_none : (k : ℕ) (os : List Open) → whole_value w k os None ≡ None
  whole_none k [] = refl
  whole_none k (o ∷ os) = ap (whole_value w k os) (open_none k o) ∙ whole_none k os

  pub stops : (total values : ℕ → Option Ratio) (os : List Open)
      → ((k : ℕ) → total k ≡ whole_value w k os (values k)) → Lacks w values → Lacks w total
  stops total values os leads (k, less, nothing) =
      (k, less, leads k ∙ ap (whole_value w k os) nothing ∙ whole_none k os)

-- ---- the action that is chosen

pub choice_there : (keys : List SetKey) (strategy : List ℕ) (position : ℕ) (key : SetKey)
    → AreDistinct keys → at_position keys position ≡ Some key
    → choice_at keys strategy key ≡ unwrap_or (at_position strategy position) 0
choice_there (s ∷ keys) (action ∷ others) (suc (suc k)) key d h =
    grind (arith, same_set_equality, has_at, choice_there keys others (suc k) key d.1 h)
choice_there keys others k key d h = grind arith

pub choice_is : (g : Game) (all : List (List ℕ)) (player position : ℕ) (key : SetKey) → IsGame g
    → key.player ≡ player → at_position (player_keys g player) position ≡ Some key
    → choices_by g all key ≡ unwrap_or (at_position (strategy_at all player) position) 0
choice_is g all player position key game his at =
    grind (arith, sets_by_first_use, first_uses_distinct, same_set_equality, choice_there)

pub chosen : (w : Walk) (k node action : ℕ) (key : SetKey) → (node_there w node).set ≡ Some key
    → ¬ (key.player ≡ 0) → action ≡ choices_of w key
    → tree_value w k (tree_there w node) ≡ with_own w k node (option_and_then (tree_value w k)
    (at_position (child_trees (tree_there w node)) action))
chosen w k node action key is personal same =
    rw same (value_by_choice w.game.now (choices_of w) (suc k) (tree_there w node) key is personal)

-- ---- the probability of an action

pub chance_is : (g : Game) (n : Node) (actions : List Action) (k : ℕ)
    → MatchOption n.set (actions ≡ [])
    (λ key. option_map (λ set. set.actions) (set_at g key) ≡ Some actions) → chances_at g n k
    ≡ unwrap_or (option_and_then (λ a. a.probability) (at_position actions k)) one_ratio
chance_is g n actions k h = grind arith

-- ---- positions

pub set_there : {A : Type 0} (all : List (Vec A Global)) (player position : ℕ)
    → at_position (strategy_at (map (λ own. own.items) all) player) position
    ≡ option_and_then (λ own. at_position own.items position) (at_position all player)
set_there all player position = grind (arith, at_mapped)

-- ---- the children that are left

pub left_more : {A : Type 0} (xs : List A) (k : ℕ) (x : A) → slice_get xs k ≡ Some x
    → drop k xs ≡ x ∷ drop (k + 1) xs
left_more xs k x there =
    let next : k + 1 ≡ suc k = omega arith in
    rw next (drop-cons xs k x (slice_get_within xs k x there)
    ∙ ap (λ (y : _). y ∷ drop (suc k) xs) (get_or_from_slice_get xs k x x there))

pub none_left : {A : Type 0} (xs : List A) (k : ℕ) → slice_get xs k ≡ None → drop k xs ≡ []
none_left (y ∷ xs) (suc k) past = none_left xs k past
none_left xs k past = grind (arith, drop-nil)

-- ---- sizes

listed_smaller : (ts : Trees Node) (k : ℕ) (t : Tree Node) → slice_get (list_of ts) k ≡ Some t
    → length (flatten t) < suc (length (flatten_all ts))
listed_smaller (more u ts) (suc k) t h = grind (arith, length-append, listed_smaller ts k t h)
listed_smaller ts k t h = grind (arith, length-append)

pub child_smaller : (t child : Tree Node) (position : ℕ) → at_position (child_trees t) position
    ≡ Some child → length (flatten child) < length (flatten t)
child_smaller (branch n ts) child position h = grind (arith, listed_smaller)

-- ---- what the steps of the code need

pub tree_size : (t : Tree Node)
    → length (flatten t) ≡ suc (length (flatten_all (trees_of (child_trees t))))
tree_size (branch n ts) = ap (λ us. suc (length (flatten_all us))) (sym (trees_of_list ts))

pub ruleset chance_steps = (chance_is, at_mapped)

pub ruleset draw_steps = (left_more, none_left, length-append)

pub ruleset enter_steps = (own_is, value_of_leaf, value_by_chance, chosen, child_smaller, tree_size)

pub ruleset whole_steps = (sum_by_push, turned)

-- ---- the list of a game's nodes while it is made

-- what stands at a place stays there
still_there : {A : Type 0} (xs ys : List A) (k : ℕ) (x : A) → slice_get xs k ≡ Some x
    → slice_get (xs ++ ys) k ≡ Some x
still_there (y ∷ xs) ys (suc k) x h = still_there xs ys k x h
still_there xs ys k x h = grind arith

behind : {A : Type 0} (xs ys : List A) (k : ℕ)
    → slice_get (xs ++ ys) (length xs + k) ≡ slice_get ys k
behind [] ys k = ap (slice_get ys) (omega arith)
behind (x ∷ xs) ys k = grind (arith, behind xs ys k)

-- the children of so many of these trees, the first ones, stand at their places
abbrev StandFor : Game → List (Tree Node) → List ℕ → Type 0
StandFor g trees firsts = (at : ℕ) → at < length firsts
    → StandFrom trees (get_or firsts at 0) (get_or trees at g.tree)

one_more : (g : Game) (trees : List (Tree Node)) (firsts : List ℕ) → length firsts < length trees
    → StandFor g trees firsts
    → StandFor g (trees ++ child_trees (get_or trees (length firsts) g.tree))
    (firsts ++ length trees ∷ [])
one_more g trees firsts less h at within k child is =
    let n = length firsts in
    grind (arith, cases_lt, get_or_append_left, still_there, length-append, get_or-append_seam, behind)

-- a game's nodes, those before one with their children
pub record AreListed (g : Game) (branches : List Branch) (firsts : List ℕ) : Type 0 where
  pub games : AreOf g branches
  pub root : slice_get (map tree_of branches) 0 ≡ Some g.tree
  pub upto : length firsts ≤ length branches
  pub children : StandFor g (map tree_of branches) firsts

-- ---- how much is left

abbrev pub sizes : List (Tree Node) → ℕ
sizes trees = sum_by (λ t. length (flatten t)) trees

sizes_of : (ts : List (Tree Node)) → sizes ts ≡ length (flatten_all (trees_of ts))
sizes_of [] = refl
sizes_of (t ∷ ts) = search (rules, sum_by-cons, length-append, sizes_of ts)

less_left : (trees : List (Tree Node)) (n : ℕ) (d : Tree Node) → n < length trees
    → sizes (drop (n + 1) (trees ++ child_trees (get_or trees n d))) < sizes (drop n trees)
less_left trees n d less =
    let t = get_or trees n d in
    let size = λ (t : Tree Node). length (flatten t) in
    let both = sum_by-append size (drop (suc n) trees) (child_trees t) in
    let own = sum_by-cons size t (drop (suc n) trees) in
    grind (arith, drop-cons, sizes_of, tree_size, drop-append-le)

-- ---- one node more

module _ (g : Game) (branches next : List Branch) (firsts : List ℕ) (node : Branch)
    (less : length firsts < length branches) (is : node ≡ get_or branches (length firsts) node)
    (trees : map tree_of next ≡ map tree_of branches ++ child_trees (tree_of node)) where
  counted : length (map tree_of branches) ≡ length branches
  counted = length-map branches tree_of

  there : tree_of node ≡ get_or (map tree_of branches) (length firsts) g.tree
  there = ap tree_of is ∙ sym (get_or-map tree_of branches (length firsts) node g.tree less)

  pub list_more : (AreOf (game_of node) branches → AreOf (game_of node) next)
      → AreListed g branches firsts → AreListed g next (firsts ++ length branches ∷ [])
  list_more games h =
      grind (arith, all_at, one_more, counted, still_there, length-map, length-append, there)

  pub sizes_fall : (on : List ℕ) → length on ≡ length firsts + 1
      → sizes (drop (length on) (map tree_of next))
      < sizes (drop (length firsts) (map tree_of branches))
  sizes_fall on long = grind (arith, there, less_left, counted)

-- ---- the root

pub root_there : (g : Game) (ns : Nodes) → AreNodesOf g ns
    → (0 < length ns.branches.items) × (tree_at g ns 0 ≡ g.tree)
root_there g ns are = grind (arith, common_steps, are.root)

-- ---- a child

pub child_there : (g : Game) (ns : Nodes) (at before first : ℕ) (node : Branch) → AreNodesOf g ns
    → at < length ns.branches.items → node ≡ get_or ns.branches.items at node
    → before < length (child_trees (tree_of node)) → first ≡ get_or ns.firsts.items at first
    → (first + before < length ns.branches.items)
    × (slice_get (child_trees (tree_at g ns at)) before ≡ Some (tree_at g ns (first + before)))
child_there g ns at before first node are there node_is less first_is =
    let ts = child_trees (tree_at g ns at) in
    let child = get_or ts before g.tree in
    let tree : tree_of node ≡ tree_at g ns at = ap tree_of node_is ∙ sym (get_or-map tree_of
    ns.branches.items at node g.tree there) in
    let is = slice_get-get_or ts before g.tree (rw tree at less) in
    let same_first : get_or ns.firsts.items at 0 ≡ first = get_or_default ns.firsts.items at 0 first
    (omega (arith, there, are.one_each)) ∙ sym first_is in
    let stands = rw same_first at (are.children at there before child is) in
    grind (arith, slice_get_within, length-map, get_or_from_slice_get)
