-- The parts of a node as it is kept: who moves there, its actions, and the place after its subtree.
use Rattle.gf_tree.proofs.Common
use Common.{get_or_from_slice_get, position_from-zero, slice_get_within, outcome_numbers, Described}
use Common.{InformationSet, position_from, slice_get-map, subtree_sizes, used_outcomes, Decides-eqb}
use Common.{number_among, subtrees_all, at_position, child_trees, append-nil, length-map, game_with}
use Common.{option_map, subtree_at, root_node, same_Some, slice_get, tree_with, AreNodes, drop-map}
use Common.{known_of, position, subtrees, IsAmong, Outcome, flatten, kept_of, skipped, Action, Game}
use Common.{IsGame, SetKey, Stored, branch, get_or, length, nat_eq, set_at, set_of, Begin, Parts, ℕ}
use Common.{arith, subst, List, Node, Some, Tree, drop, more, refl, take, zero, map, suc, sym, ◌+◌}
use Common.{◌-◌, ◌<◌, ◌∙◌, ◌∷◌, ◌≡◌, ◌≤◌, [], ap}
use Rattle.gf_tree.proofs.lemmas.stores.GameNodes.{child_is_there, children_there, placed_there}
use Rattle.gf_tree.proofs.lemmas.stores.GameNodes.{sizes_beside, node_there, IsTreeOf}
use Rattle.std.proofs.lemmas.List.{drop-drop}
use Rattle.gf_tree.specs.inner.GameParts.{IsKeptAt}
use Rattle.gf_tree.specs.Movers.{IsMover}
use Rattle.gf_tree.specs.OutcomePositions.{position_among}
use Rattle.gf_tree.proofs.lemmas.games.FirstUses.{first_uses_distinct, AreDistinct}
use Rattle.gf_tree.proofs.lemmas.stores.Places.{at_index}
use Rattle.gf_tree.proofs.lemmas.games.Lookups.{entry_at}
use Rattle.gf_tree.proofs.lemmas.games.TreesOnce.{same_set_equality}
use Rattle.gf_tree.proofs.lemmas.stores.RenumberedStores.{is_among}
use Rattle.gf_tree.proofs.lemmas.stores.SubtreeSizes.{subtrees_counted, begin_first, stands}
use Rattle.gf_tree.proofs.lemmas.games.Members.{something_there, has_at}

from_there : {A : Type 0} (xs : List A) (k : ℕ) (x : A) → slice_get xs k ≡ Some x
    → drop k xs ≡ x ∷ drop (k + 1) xs
from_there (y ∷ xs) (suc k) x h = grind (arith, from_there xs k x h)
from_there xs k x h = grind arith

-- ---- places after subtrees

-- one tree begins at each place
pub begin_here : {N : Type 0} (t : Tree N) (at : ℕ) → at < length (subtrees t)
    → Begin 1 (drop at (subtree_sizes t))
begin_here {N} t at h =
    let r = stands t at (rw (← subtrees_counted t) h) in
    let here =
    drop-map (λ (s : Tree N). length (flatten s)) at (subtrees t)
    ∙ ap (map (λ (s : Tree N). length (flatten s)))
    (r.stands.trees ∙ sym (append-nil (subtrees_all (more (branch r.node r.below) r.others)))) in
    rw here (begin_first 1 (more (branch r.node r.below) r.others) [] (omega arith))

-- one more tree is skipped
skips_more : (n : ℕ) (xs : List ℕ) → Begin (suc n) xs
    → skipped (suc n) xs ≡ skipped n xs + skipped 1 (drop (skipped n xs) xs)
skips_more (suc n) (s ∷ xs) h =
    grind (arith, more, drop-drop, skips_more n (drop s (s ∷ xs)) h.1)
skips_more n xs h = grind arith

-- the branch of the next child, and the place of the one after it
pub record IsNextChild {N : Type 0} (t : Tree N) (at before place : ℕ) : Type 0 where
  pub within : place < length (subtrees t)
  pub there : drop before (child_trees (subtree_at t at))
      ≡ subtree_at t place ∷ drop (before + 1) (child_trees (subtree_at t at))
  pub behind : place + skipped 1 (drop place (subtree_sizes t))
      ≡ at + 1 + skipped (before + 1) (drop (at + 1) (subtree_sizes t))

pub next_child : {N : Type 0} (t : Tree N) (at before place : ℕ) → at < length (subtrees t)
    → before < length (child_trees (subtree_at t at))
    → place ≡ at + 1 + skipped before (drop (at + 1) (subtree_sizes t))
    → IsNextChild t at before place
next_child {N} t at before place h i e =
    let kids = child_trees (subtree_at t at) in
    let sizes = drop (at + 1) (subtree_sizes t) in
    let r = child_is_there t at before h i in
    let x = something_there kids before i in
    let is : slice_get (subtrees t) place ≡ Some x.0 = cc in
    let more = skips_more before sizes r.begin_more in
    let next : before + 1 ≡ suc before = omega arith in
    let same : drop place (subtree_sizes t) ≡ drop (skipped before sizes) sizes =
    cc (drop-drop (skipped before sizes) (at + 1) (subtree_sizes t)) in
    let got : subtree_at t place ≡ x.0 = get_or_from_slice_get (subtrees t) place x.0 t is in
    record {
      within = slice_get_within (subtrees t) place x.0 is;
      there = cc (from_there kids before x.0 x.1);
      behind = rw (same, next, more) (omega (arith, e));
    }

-- ---- what stands at a node

-- what the position of a set shows
pub mover_there : (known : List (Described SetKey InformationSet)) (place player number n : ℕ)
    → place < length known
    → option_map (λ s. s.key) (slice_get known place) ≡ Some (set_of player number)
    → number_among known place ≡ Some n
    → at_position (map (λ s. s.key) (known_of player known)) n ≡ Some (set_of player number)
mover_there known place player number n h key among =
    let t = something_there known place h in
    let s = t.0 in
    let is : s.key ≡ set_of player number =
    same_Some _ _ (cc (t.1, key)) in
    let his : s.key.player ≡ player = ap (λ (k : SetKey). k.player) is in
    let counted : Some (length (known_of s.key.player (take (place + 1) known))) ≡ Some n =
    rw t.1 at among in
    let next : place + 1 ≡ suc place = omega arith in
    let a = is_among known place s.key.player s t.1 refl in
    let same : length (known_of s.key.player (take (suc place) known)) ≡ n =
    cc (next, same_Some _ _ counted) in
    let at : n ≡ suc a.before = sym same ∙ a.counted in
    rw at
    (ap (λ (p : ℕ). slice_get (map (λ (s : Described SetKey InformationSet). s.key)
    (known_of p known)) a.before) (sym his)
    ∙ slice_get-map (λ (s : Described SetKey InformationSet). s.key) (known_of s.key.player known)
    a.before ∙ ap (option_map (λ (s : Described SetKey InformationSet). s.key)) a.stands
    ∙ ap Some is)

-- the actions of the set at a place
pub actions_there : (g : Game) → IsGame g → (place : ℕ) (key : SetKey) (actions : List Action)
    → option_map (λ s. s.key) (slice_get g.sets place) ≡ Some key
    → option_map (λ s. s.description.actions) (slice_get g.sets place) ≡ Some actions
    → option_map (λ set. set.actions) (set_at g key) ≡ Some actions
actions_there g game place key actions at are =
    grind (arith, same_Some, first_uses_distinct, same_set_equality, entry_at, has_at)

-- ---- the position of a number

position_after : (ns : List ℕ) (start k n : ℕ) → AreDistinct ns → slice_get ns k ≡ Some n
    → position_from (nat_eq n) start ns ≡ Some (start + k)
position_after (m ∷ ns) start (suc k) n d h =
    grind (arith, has_at, position_after ns (start + 1) k n d.1 h)
position_after ns start k n d h = grind arith

position_is : (ns : List ℕ) (k n : ℕ) → AreDistinct ns → slice_get ns k ≡ Some n
    → position (nat_eq n) ns ≡ Some k
position_is ns k n d h = grind (arith, position_from-zero, position_after)

-- ---- at the place of a node

pub kept_there : (p : Parts) (nodes : List Stored) (g : Game) (at : ℕ) (n : Stored)
    → AreNodes p.sets p.outcomes nodes → game_with p (map kept_of nodes) ≡ g
    → at < length (subtrees g.tree) → n ≡ get_or nodes at n → IsKeptAt g at n
kept_there p nodes g at n are is h here =
    let sets = p.sets in
    let outcomes = p.outcomes in
    let tree : IsTreeOf sets outcomes nodes (tree_with sets outcomes (map kept_of nodes)) =
    record { are = are; is = refl } in
    let within : at < length (subtrees (tree_with sets outcomes (map kept_of nodes))) =
    subst (λ (x : Game). at < length (subtrees x.tree)) (sym is) h in
    subst (λ (x : Game). IsKeptAt x at n) is (record {
      node = cc (node_there tree at n within, here);
      children = cc (children_there tree at n within, here);
      placed = subst (λ (m : Stored). IsAmong (length sets) (length outcomes) (kept_of m))
          (sym here) (placed_there (length sets) (length outcomes) nodes at n are.placed
          (grind (arith, within, length-map, sizes_beside)));
    })

module _ (g : Game) (at : ℕ) (n : Stored) (kept : IsKeptAt g at n) where
  abbrev node : Node
  node = root_node (subtree_at g.tree at)

  pub set_is : (k : ℕ) → n.set ≡ k → node.set ≡ option_map (λ s. s.key) (at_position g.sets k)
  set_is k e = cc kept.node

  pub set_below : ¬ (n.set ≡ 0) → n.set - 1 < length g.sets
  set_below some = let within = kept.placed.set in omega (arith, within, some)

  pub is_mover : (player number among : ℕ) → ¬ (n.set ≡ 0)
      → option_map (λ s. s.key) (slice_get g.sets (n.set - 1)) ≡ Some (set_of player number)
      → number_among g.sets (n.set - 1) ≡ Some among → IsMover g node.set (Some (player, among))
  is_mover player number among some key his = (
    set_of player number,
    (cc (set_is n.set refl, at_index g.sets n.set (omega (arith, some)))) ∙ key,
    refl,
    mover_there g.sets (n.set - 1) player number among (set_below some) key his,
  )

  pub outcome_position : IsGame g → n.outcome ≡ position_among (outcome_numbers g) node.outcome
  outcome_position game = by n.outcome refl kept.placed.outcome
    where
      distinct : AreDistinct (outcome_numbers g)
      distinct = subst AreDistinct (sym game.one_entry_each_outcome)
          (first_uses_distinct nat_eq Decides-eqb (used_outcomes g.tree))

      outcome_is : (k : ℕ) → n.outcome ≡ k
          → node.outcome ≡ option_map (λ o. o.key) (at_position g.outcomes k)
      outcome_is k e = cc kept.node

      by : (k : ℕ) → n.outcome ≡ k → k ≤ length g.outcomes
          → k ≡ position_among (outcome_numbers g) node.outcome
      by zero is within = sym (ap (position_among (outcome_numbers g)) (outcome_is 0 is))
      by (suc k) is within =
          let at = something_there g.outcomes k (omega (arith, within)) in
          let key = ap (option_map (λ (o : Described ℕ Outcome). o.key)) at.1 in
          let number : slice_get (outcome_numbers g) k ≡ Some at.0.key =
          slice_get-map (λ (o : Described ℕ Outcome). o.key) g.outcomes k ∙ key in
          cc (outcome_is (suc k) is, position_is (outcome_numbers g) k at.0.key distinct number)
