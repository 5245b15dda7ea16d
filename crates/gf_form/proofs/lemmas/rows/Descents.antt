-- What a walk down a tree meets, given by a walk through branches. Of the nodes that a walk by demands
-- meets, choices meet the demands of those that a walk by the choices meets.
use Rattle.gf_form.proofs.Common
use Common.{game_of_branches, AllByRecursion, InformationSet, branches_given, branches_left, IsGame}
use Common.{demands_below, if◌then◌else◌, option_map_or, append_assoc, mod-eq_of_lt, HasChildren, ℕ}
use Common.{MatchOption, at_position, child_trees, descent_all, flatten_all, player_keys, AreDigits}
use Common.{open_stops, open_turns, option_map, ArePlaced, all_parts, demanding, eqb-false, Handing}
use Common.{root_node, Entering, choosing, comes_by, demanded, eqb-true, steps_by, steps_of, Option}
use Common.{trees_of, descent, flatten, game_of, list_of, step_at, stop_at, tree_of, SetKey, branch}
use Common.{eq-eqb, get_or, length, set_at, Trees, arith, below, count, false, meets, stops, turns}
use Common.{Bool, Game, List, Node, None, Some, Stop, Tree, kept, more, none, refl, true, ◌&&◌}
use Common.{◌++◌, ◌==◌, set, suc, sym, ◌%◌, ◌*◌, ◌+◌, ◌^◌, ◌∙◌, ◌∷◌, ◌≡◌, ◌≤◌, [], ap}
use Rattle.gf_form.proofs.lemmas.values.Walks.{trees_of_list, choice_there, choice_is}
use Rattle.gf_form.proofs.lemmas.strategies.Chosen.{keys_distinct}
use Rattle.gf_tree.specs.declared.game.branch.Branch.{Branch}
use Rattle.gf_tree.specs.declared.game.branches.Branches.{Branches}
use Rattle.gf_form.specs.declared.rows.descent.Open.{Open}
use Rattle.gf_form.specs.declared.rows.descent.Steps.{Steps}
use Rattle.std.proofs.Math.Nat.{div-zero}
use Rattle.gf_form.proofs.lemmas.rows.Digits.{within_length, pack_below, set_within, AreWithin, met}
use Rattle.gf_form.proofs.lemmas.rows.Digits.{met_digit, digit_is, meets_is, set_pack, met_set}
use Rattle.gf_form.proofs.lemmas.rows.Digits.{pack}

-- ---- what is told below a node by the list of its children

length-list_of : {N : Type 0} (ts : Trees N) → length (list_of ts) ≡ count ts
length-list_of none = refl
length-list_of (more t ts) = ap suc (length-list_of ts)

module _ {S : Type 0} (g : Game) (enter : Entering S) (s : S) where
  pub leaf_told : (t : Tree Node) → (root_node t).set ≡ None
      → descent g enter s t ≡ stop_at g (root_node t) s ∷ []
  leaf_told (branch n ts) is = grind (arith, is)

  move_told : (t : Tree Node) (key : SetKey) → (root_node t).set ≡ Some key
      → descent g enter s t ≡ stop_at g (root_node t) s ∷ descent_all g enter
      (enter (root_node t) key (length (child_trees t)) s) 1 (trees_of (child_trees t))
  move_told (branch n ts) key is = grind (arith, is, trees_of_list, length-list_of)

-- the children of a node that was opened
first_entered : {S : Type 0} (h : Handing S) (steps : Game → SetKey → ℕ) (g g' : Game) (n : Node)
    (key : SetKey) (s : S) (m step action k : ℕ) (ts ts' : List (Tree Node)) → g' ≡ g → ts' ≡ ts
    → k ≡ 0 → steps g key ≡ step → action ≡ demanded (h.demands s) step m
    → descent_all g (demanding h g (steps g)) (demanding h g (steps g) n key m s) 1
    (trees_of ts)
    ≡ descent_all g' (demanding h g' (steps g'))
    (λ j. option_map (h.below g n s j) (demands_below (h.demands s) step action j)) (k + 1)
    (trees_of ts')
first_entered h steps g g' n key s m step action k ts ts' e f i here own =
    rw (e, f, i, own, sym here) refl

-- ---- the steps of digits

pub step_there : (steps : Steps) (g : Game) (player position : ℕ) (key : SetKey) → IsGame g
    → key.player ≡ player → at_position (player_keys g player) position ≡ Some key
    → steps_by g steps key ≡ step_at steps player position
step_there steps g player position key game his at =
    grind (arith, choice_is, keys_distinct, choice_there, eq-eqb)

-- ---- what is open

module _ {S : Type 0} (h : Handing S) (steps : Steps) where
  pub below_last : (os : List (Open S)) (o : Open S) (vs : List (Stop S))
      → below h steps (os ++ o ∷ []) vs ≡ open_stops h steps o ++ below h steps os vs
  below_last [] o vs = refl
  below_last (p ∷ os) o vs = below_last os o (open_stops h steps p ++ vs)

pub entered : {S : Type 0} (h : Handing S) (steps : Steps) (b : Branch) (s : S) (key : SetKey)
    (step action : ℕ) (rest : Branches) → (root_node (tree_of b)).set ≡ Some key
    → steps_by (game_of b) steps key ≡ step
    → action ≡ demanded (h.demands s) step (length (child_trees (tree_of b)))
    → game_of_branches rest ≡ game_of b → branches_left rest ≡ child_trees (tree_of b)
    → branches_given rest ≡ 0
    → stops h steps (game_of b) s (tree_of b) ≡ stop_at (game_of b) (root_node (tree_of b)) s
    ∷ open_stops h steps
    (record { node = b; rest = rest; state = s; step = step; action = action })
entered {S} h steps b s key step action rest at here own game trees given =
    let g = game_of b in
    move_told g (demanding h g (steps_by g steps)) s (tree_of b) key at
    ∙ ap (λ (vs : List (Stop S)). stop_at g (root_node (tree_of b)) s ∷ vs)
    (grind (arith, first_entered))

pub turns_last : {S : Type 0} (os : List (Open S)) (o : Open S)
    → turns (os ++ o ∷ []) ≡ turns os + open_turns o
turns_last [] o = omega arith
turns_last (p ∷ os) o = omega (arith, turns_last os o)

pub ruleset descent_steps = (append_assoc, below_last, turns_last, leaf_told)

-- ---- which of them choices meet

-- a set with this many actions is at a node with children
pub set_there : (g : Game) (key : SetKey) (m : ℕ)
    → option_map (λ set. length set.actions) (set_at g key) ≡ Some m
    → (set : InformationSet) × (set_at g key ≡ Some set) × (length set.actions ≡ m)
set_there g key m h = grind arith

-- what is handed to a child has the demands that it should, and is the same without these
pub record AreFreed {S : Type 0} (g : Game) (h : Handing S) (free : S → S) : Type 0 where
  pub demands_are : (n : Node) (s : S) (k d : ℕ) → h.demands (h.below g n s k d) ≡ d
  pub below_freed : (n : Node) (s : S) (k d : ℕ) → free (h.below g n s k d)
      ≡ h.below g n (free s) k (h.demands (free s))

-- What the path to a child demands, by digits: as that to its parent if its action is demanded, and
-- the action too if any will do. Choices meet it if they meet what was demanded and come to it.
record Leads (actions choices ds : List ℕ) (step action k : ℕ) (comes : Bool) : Type 0 where
  next : List ℕ
  within : AreWithin actions next
  are : action ≡ 0 → pack actions next ≡ pack actions ds + k * step
  leads : (met choices ds && comes)
      ≡ (if action == 0 then met choices next else k == action && met choices ds)

module _ {g : Game} {owns : SetKey → Bool} {steps choose : SetKey → ℕ} {actions choices : List ℕ}
    (digits : AreDigits g owns steps choose actions choices) where
  abbrev LeadsAt : List ℕ → ℕ → ℕ → ℕ → Bool → Type 0
  LeadsAt ds step m k comes =
      Leads actions choices ds step (demanded (pack actions ds) step m) k comes

  at_digit : (ds : List ℕ) (step m k choice : ℕ) → AreWithin actions ds → 1 ≤ k → k ≤ m
      → ArePlaced (steps_of actions) actions choices step m choice
      → LeadsAt ds step m k (choice == k)
  at_digit ds step m k choice within from upto d =
      let own : demanded (pack actions ds) step m ≡ get_or ds d.place 0 =
      cc (d.step_is, d.count_is, digit_is actions ds d.place within d.within) in record {
        next = set ds d.place k;
        within = grind (arith, set_within);
        are = λ free. grind (arith, set_pack);
        leads = grind (arith, met_set, met_digit, within_length, digits.one_each);
      }

  leads_on : (ds : List ℕ) (key : SetKey) (m k : ℕ) → AreWithin actions ds
      → option_map (λ set. length set.actions) (set_at g key) ≡ Some m → 1 ≤ k → k ≤ m
      → LeadsAt ds (steps key) m k (comes_by owns choose key k)
  leads_on ds key m k within at from upto =
      grind (arith, set_there, div-zero, mod-eq_of_lt, pack, eqb-true, eq-eqb, at_digit, eqb-false)

  module _ {S : Type 0} (h : Handing S) (free : S → S) (laws : AreFreed g h free) where
    abbrev keep : List (Stop S) → List (Stop S)
    keep vs = kept (λ s. meets (steps_of actions) choices (h.demands s)) free vs

    -- these are left of what is met, if choices meet these digits
    abbrev Keeps : List ℕ → List (Stop S) → List (Stop S) → Type 0
    Keeps ds rs fs = keep rs ≡ (if met choices ds then fs else [])

    kept_append : (xs ys : List (Stop S)) → keep (xs ++ ys) ≡ keep xs ++ keep ys
    kept_append [] ys = refl
    kept_append (x ∷ xs) ys = grind (arith, kept_append xs ys)

    abbrev HasDigits : S → List ℕ → Type 0
    HasDigits s ds = (h.demands s ≡ pack actions ds) × AreWithin actions ds

    abbrev met_by : S → Tree Node → List (Stop S)
    met_by s t = descent g (demanding h g steps) s t

    abbrev chosen_by : S → Tree Node → List (Stop S)
    chosen_by s t = descent g (choosing h g owns choose) s t

    abbrev KeepsTree : Tree Node → Type 0
    KeepsTree t = (s : S) (ds : List ℕ) → HasDigits s ds
        → Keeps ds (met_by s t) (chosen_by (free s) t)

    child_kept : (t : Tree Node) (n : Node) (s : S) (ds : List ℕ) (step action k : ℕ)
        (comes any same : Bool) → KeepsTree t → HasDigits s ds
        → Leads actions choices ds step action k comes → (action == 0) ≡ any → (k == action) ≡ same
        → Keeps ds (option_map_or (λ s. met_by s t) (option_map (h.below g n s k)
        (if any then Some ((h.demands s + k * step) % 2 ^ 64)
        else if same then Some (h.demands s) else None)) [])
        (option_map_or (λ s. chosen_by s t)
        (if comes then Some (h.below g n (free s) k (h.demands (free s))) else None) [])
    child_kept t n s ds step action k comes true same tree has led e f =
        let d = (h.demands s + k * step) % 2 ^ 64 in
        let small = pack_below actions led.next led.within in
        let fits : d ≡ pack actions led.next = grind (arith, mod-eq_of_lt) in
        let own = tree (h.below g n s k d) led.next (laws.demands_are n s k d ∙ fits, led.within) in
        grind (arith, eqb-true)
    child_kept t n s ds step action k comes false true tree has led e f =
        let d = h.demands s in
        let own = tree (h.below g n s k d) ds (laws.demands_are n s k d ∙ has.0, has.1) in
        grind (arith, laws.below_freed, led.leads)
    child_kept t n s ds step action k comes false false tree has led e f = grind (arith, led.leads)

    node_kept : (n : Node) (ts : Trees Node) (s : S) (ds : List ℕ) (o : Option SetKey)
        (below beneath : SetKey → List (Stop S)) → HasDigits s ds → MatchOption o (count ts ≡ 0)
        (λ key. option_map (λ set. length set.actions) (set_at g key) ≡ Some (count ts))
        → ((key : SetKey) → option_map (λ set. length set.actions) (set_at g key) ≡ Some (count ts)
        → Keeps ds (below key) (beneath key))
        → Keeps ds (stop_at g n s ∷ option_map_or below o [])
        (stop_at g n (free s) ∷ option_map_or beneath o [])
    node_kept n ts s ds o below beneath has children each = grind (arith, meets_is)

    mutual
      pub tree_kept : (t : Tree Node) → AllByRecursion (HasChildren g) (flatten t) → KeepsTree t
      tree_kept (branch n ts) children s ds has =
          node_kept n ts s ds n.set _ _ has children.0 (λ key at.
          all_kept ts n key (count ts) s ds 1 children.1 at has (omega arith) (omega arith))

      all_kept : (ts : Trees Node) (n : Node) (key : SetKey) (m : ℕ) (s : S) (ds : List ℕ) (k : ℕ)
          → AllByRecursion (HasChildren g) (flatten_all ts)
          → option_map (λ set. length set.actions) (set_at g key) ≡ Some m → HasDigits s ds
          → 1 ≤ k → k + count ts ≤ 1 + m → Keeps ds
          (descent_all g (demanding h g steps) (demanding h g steps n key m s) k ts)
          (descent_all g (choosing h g owns choose)
          (choosing h g owns choose n key m (free s)) k ts)
      all_kept none n key m s ds k children at has from upto = grind arith
      all_kept (more t ts) n key m s ds k children at has from upto =
          let both = all_parts (HasChildren g) (flatten t) (flatten_all ts) children in
          let led = leads_on ds key m k has.1 at from (omega (arith, upto)) in
          let first = child_kept t n s ds (steps key) (demanded (h.demands s) (steps key) m) k
          (comes_by owns choose key k) _ _ (tree_kept t both.0) has (rw (sym has.0) at led) refl
          refl in
          let later = all_kept ts n key m s ds (k + 1) both.1 at has (omega arith)
          (omega (arith, upto)) in
          grind (arith, kept_append)
