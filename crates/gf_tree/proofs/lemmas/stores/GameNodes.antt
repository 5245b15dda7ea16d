-- The nodes of a game as they are kept are those of its tree.
use Rattle.gf_tree.proofs.Common
use Common.{InformationSet, subtree_sizes, entries_with, subtrees_all, child_counts, flatten_all, ℕ}
use Common.{child_trees, child_count, length-map, map-append, get_or-map, subtree_at, slice_get, []}
use Common.{Described, tree_with, root_node, drop-map, AreAmong, subtrees, AreNodes, IsListed, zero}
use Common.{sizes_of, flatten, skipped, Outcome, IsAmong, kept_of, list_of, length, get_or, branch}
use Common.{Listed, Stored, SetKey, IsHeld, subst, arith, Trees, count, Fills, Begin, Parts, List}
use Common.{◌++◌, drop, refl, Tree, none, more, grow, Node, Kept, root, ◌≡◌, suc, ◌+◌, ◌<◌, ◌∷◌, ap}
use Common.{map, sym, ◌∙◌}
use Rattle.std.proofs.Math.Seq.{drop-cons}
use Rattle.gf_tree.specs.inner.GrowsAgain.{root_grows_again}
use Rattle.gf_tree.specs.inner.KeptNodes.{node_with}
use Rattle.gf_tree.proofs.lemmas.games.Members.{beside}
use Rattle.gf_tree.proofs.lemmas.games.Prefix.{one_tree}
use Rattle.gf_tree.proofs.lemmas.stores.SubtreeSizes.{begin_first, counts_of, drop_suc, skips_to}
use Rattle.gf_tree.proofs.lemmas.stores.SubtreeSizes.{slice_get_after, stands, subtrees_counted}

-- ---- the tree of a list

pub flatten_grown : {N : Type 0} (n : N) (es : List (Listed N)) → Fills 1 es
    → flatten (root n (grow es)) ≡ es
flatten_grown n es h =
    let t = one_tree es h in
    ap (λ xs. flatten (root n (grow xs))) (sym t.1) ∙ ap flatten (root_grows_again n t.0) ∙ t.1

-- ---- the subtrees and the entries of a tree go side by side

mutual
  nodes_beside : {N : Type 0} (t : Tree N)
      → map root_node (subtrees t) ≡ map (λ e. e.node) (flatten t)
  nodes_beside (branch n ts) = ap (λ xs. n ∷ xs) (all_nodes_beside ts)

  all_nodes_beside : {N : Type 0} (ts : Trees N)
      → map root_node (subtrees_all ts) ≡ map (λ e. e.node) (flatten_all ts)
  all_nodes_beside none = refl
  all_nodes_beside (more t ts) =
      map-append root_node (subtrees t) (subtrees_all ts)
      ∙ (λ i. nodes_beside t i ++ all_nodes_beside ts i)
      ∙ sym (map-append (λ e. e.node) (flatten t) (flatten_all ts))

length-list_of : {N : Type 0} (ts : Trees N) → length (list_of ts) ≡ count ts
length-list_of none = refl
length-list_of (more t ts) = ap suc (length-list_of ts)

mutual
  counts_beside : {N : Type 0} (t : Tree N)
      → map (λ s. length (child_trees s)) (subtrees t) ≡ counts_of (flatten t)
  counts_beside (branch n ts) = λ i. length-list_of ts i ∷ all_counts_beside ts i

  all_counts_beside : {N : Type 0} (ts : Trees N)
      → map (λ s. length (child_trees s)) (subtrees_all ts) ≡ counts_of (flatten_all ts)
  all_counts_beside none = refl
  all_counts_beside (more t ts) =
      map-append (λ s. length (child_trees s)) (subtrees t) (subtrees_all ts)
      ∙ (λ i. counts_beside t i ++ all_counts_beside ts i)
      ∙ sym (map-append (λ e. e.children) (flatten t) (flatten_all ts))

-- ---- a child's place

get_or_from_drop : {X : Type 0} (xs ys : List X) (at : ℕ) (x d : X) → drop at xs ≡ x ∷ ys
    → get_or xs at d ≡ x
get_or_from_drop [] ys zero x d e = absurd cc
get_or_from_drop [] ys (suc at) x d e = absurd cc
get_or_from_drop (y ∷ xs) ys zero x d e = cc
get_or_from_drop (y ∷ xs) ys (suc at) x d e = get_or_from_drop xs ys at x d e

pub record IsChildPlace {N : Type 0} (t : Tree N) (at i : ℕ) : Type 0 where
  pub begin : Begin i (drop (at + 1) (subtree_sizes t))
  pub begin_more : Begin (suc i) (drop (at + 1) (subtree_sizes t))
  pub there : slice_get (subtrees t) (at + 1 + skipped i (drop (at + 1) (subtree_sizes t)))
      ≡ slice_get (child_trees (subtree_at t at)) i

pub child_is_there : {N : Type 0} (t : Tree N) (at i : ℕ)
    → at < length (subtrees t) → i < length (child_trees (subtree_at t at)) → IsChildPlace t at i
child_is_there {N} t at i h j =
    let r = stands t at (rw (← subtrees_counted t) h) in
    let here = r.stands.trees in
    let tree : subtree_at t at ≡ branch r.node r.below = grind (arith, get_or_from_drop) in
    let behind : drop (suc at) (subtrees t) ≡ subtrees_all r.below ++ subtrees_all r.others =
    drop_suc (subtrees t) (subtrees_all r.below ++ subtrees_all r.others) at (branch r.node r.below)
    here in
    let next : at + 1 ≡ suc at = omega arith in
    let sizes : drop (at + 1) (subtree_sizes t)
    ≡ map (λ s. length (flatten s)) (subtrees_all r.below ++ subtrees_all r.others) =
    cc (next, drop-map (λ (s : Tree N). length (flatten s)) (suc at) (subtrees t), behind) in
    let less : i < count r.below =
    subst (λ n. i < n) (ap (λ s. length (child_trees s)) tree ∙ length-list_of r.below) j in
    record {
      begin = rw sizes (begin_first i r.below (subtrees_all r.others) (omega (arith, less)));
      begin_more =
          rw sizes (begin_first (suc i) r.below (subtrees_all r.others) (omega (arith, less)));
      there = grind (arith, slice_get_after, skips_to);
    }

-- ---- the nodes of a game

pub record IsTreeOf (sets : List (Described SetKey InformationSet))
    (outcomes : List (Described ℕ Outcome)) (nodes : List Stored) (tree : Tree Node) : Type 0 where
  pub are : AreNodes sets outcomes nodes
  pub is : tree_with sets outcomes (map kept_of nodes) ≡ tree

pub counts_kept : (sets : List (Described SetKey InformationSet))
    (outcomes : List (Described ℕ Outcome)) (ns : List Kept)
    → counts_of (entries_with sets outcomes ns) ≡ child_counts sets ns
counts_kept sets outcomes [] = refl
counts_kept sets outcomes (n ∷ ns) = grind (arith, counts_kept sets outcomes ns)

pub placed_there : (sets outcomes : ℕ) (nodes : List Stored) (at : ℕ) (d : Stored)
    → AreAmong sets outcomes (map kept_of nodes) → at < length nodes
    → IsAmong sets outcomes (kept_of (get_or nodes at d))
placed_there sets outcomes (n ∷ ns) (suc at) d p h =
    placed_there sets outcomes ns at d p.1 (omega (arith, h))
placed_there sets outcomes nodes at d p h = grind arith

module _ {sets : List (Described SetKey InformationSet)} {outcomes : List (Described ℕ Outcome)}
    {nodes : List Stored} {tree : Tree Node} (h : IsTreeOf sets outcomes nodes tree) where
  entries_are : flatten tree ≡ entries_with sets outcomes (map kept_of nodes)
  entries_are = grind (arith, flatten_grown)

  pub sizes_beside : sizes_of nodes ≡ subtree_sizes tree
  sizes_beside = h.are.sizes ∙ ap subtree_sizes h.is

  pub node_there : (at : ℕ) (d : Stored) → at < length (subtrees tree)
      → root_node (subtree_at tree at) ≡ node_with sets outcomes (kept_of (get_or nodes at d))
  node_there at d i = beside root_node (λ n. node_with sets outcomes (kept_of n))
      (subtrees tree) nodes at tree d (cc (nodes_beside tree, entries_are, nodes_of nodes)) i
    where
      nodes_of : (ns : List Stored) → map (λ e. e.node) (entries_with sets outcomes (map kept_of ns))
          ≡ map (λ n. node_with sets outcomes (kept_of n)) ns
      nodes_of [] = refl
      nodes_of (n ∷ ns) = grind (arith, nodes_of ns)

  pub children_there : (at : ℕ) (d : Stored) → at < length (subtrees tree)
      → length (child_trees (subtree_at tree at)) ≡ child_count sets (get_or nodes at d).set
  children_there at d i = beside (λ s. length (child_trees s)) (λ n. child_count sets n.set)
      (subtrees tree) nodes at tree d (counts_beside tree ∙ ap counts_of entries_are
      ∙ counts_kept sets outcomes (map kept_of nodes) ∙ counts_in nodes) i
    where
      counts_in : (ns : List Stored)
          → child_counts sets (map kept_of ns) ≡ map (λ n. child_count sets n.set) ns
      counts_in [] = refl
      counts_in (n ∷ ns) = ap (λ xs. child_count sets n.set ∷ xs) (counts_in ns)

  pub child_there : (at i : ℕ)
      → at < length (subtrees tree) → i < length (child_trees (subtree_at tree at))
      → Begin i (drop (at + 1) (sizes_of nodes))
      × (slice_get (subtrees tree) (at + 1 + skipped i (drop (at + 1) (sizes_of nodes)))
      ≡ slice_get (child_trees (subtree_at tree at)) i)
  child_there at i a b =
      let r = child_is_there tree at i a b in rw sizes_beside (r.begin, r.there)

-- ---- a game of its parts

pub shaped : (sets : List (Described SetKey InformationSet)) (outcomes : List (Described ℕ Outcome))
    (ns : List Kept) → Fills 1 (entries_with sets outcomes ns)
    → counts_of (flatten (tree_with sets outcomes ns)) ≡ child_counts sets ns
shaped sets outcomes ns h = grind (arith, counts_of, flatten_grown, counts_kept)

pub made_held : (p : Parts) (ns : List Kept) (nodes : List Stored) → map kept_of nodes ≡ ns
    → IsListed p ns → sizes_of nodes ≡ subtree_sizes (tree_with p.sets p.outcomes ns)
    → IsHeld p nodes
made_held p ns nodes e listed sizes = grind arith

-- ---- the nodes from a place on

pub next_node : {N : Type 0} (t : Tree N) (at : ℕ) → at < length (subtrees t)
    → drop at (map (λ e. e.node) (flatten t))
    ≡ root_node (subtree_at t at) ∷ drop (at + 1) (map (λ e. e.node) (flatten t))
next_node {N} t at h =
    let within : at < length (map root_node (subtrees t)) =
    omega (arith, h, length-map (subtrees t) (root_node {N = N})) in
    let next : at + 1 ≡ suc at = omega arith in
    rw (← nodes_beside t, next) (drop-cons (map root_node (subtrees t)) at (root_node t) within
    ∙ ap (λ n. n ∷ drop (suc at) (map root_node (subtrees t)))
    (get_or-map root_node (subtrees t) at t (root_node t) h))

pub nodes_counted : {N : Type 0} (t : Tree N)
    → length (map (λ e. e.node) (flatten t)) ≡ length (subtrees t)
nodes_counted {N} t = length-map (flatten t) (λ (e : Listed N). e.node) ∙ sym (subtrees_counted t)

-- ---- the first subtree is the tree

pub some_subtree : {N : Type 0} (t : Tree N) → 0 < length (subtrees t)
some_subtree (branch n ts) = omega arith

pub root_first : {N : Type 0} (t : Tree N) → subtree_at t 0 ≡ t
root_first (branch n ts) = refl

pub ruleset whole_game = (root_first, some_subtree)

pub ruleset nodes_next = (next_node, nodes_counted)
