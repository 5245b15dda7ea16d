-- The sizes of subtrees beside the nodes that are kept.
use Rattle.gf_tree.proofs.Common
use Common.{InformationSet, subtree_sizes, child_counts, flatten_all, sizes_grown, child_count, ◌≡◌}
use Common.{length-map, get_or-map, Described, drop-map, AreAmong, sizes_of, flatten, skipped, zero}
use Common.{kept_of, length, get_or, Listed, SetKey, Stored, subst, arith, count, Begin, List, ◌++◌}
use Common.{drop, Tree, suc, ◌+◌, ◌-◌, ◌<◌, ◌≤◌, ◌∷◌, map, sym, ◌∙◌, [], ap, ℕ}
use Rattle.std.proofs.lemmas.List.{map-set, drop-set}
use Rattle.std.proofs.Math.ListN.{set}
use Rattle.gf_tree.proofs.lemmas.stores.SubtreeSizes.{begin_children, counts_of, sizes_are}
use Rattle.gf_tree.proofs.lemmas.stores.SubtreeSizes.{skips_once, stands}

pub at_node : (nodes : List Stored) (at left : ℕ) → 0 < left → Begin left (drop at (sizes_of nodes))
    → at < length nodes
at_node nodes at zero h b = absurd (omega (arith, h))
at_node nodes at (suc left) h b =
    omega (arith, (skips_once (sizes_of nodes) at left b).below, length-map nodes (λ n. n.size))

pub skips_node : (nodes : List Stored) (at left : ℕ) (d : Stored) → 0 < left
    → Begin left (drop at (sizes_of nodes)) → (at + (get_or nodes at d).size ≤ length nodes)
    × Begin (left - 1) (drop (at + (get_or nodes at d).size) (sizes_of nodes))
    × (at + (get_or nodes at d).size
    + skipped (left - 1) (drop (at + (get_or nodes at d).size) (sizes_of nodes))
    ≡ at + skipped left (drop at (sizes_of nodes)))
skips_node nodes at zero d h b = absurd (omega (arith, h))
skips_node nodes at (suc left) d h b =
    let r = skips_once (sizes_of nodes) at left b in
    let less : suc left - 1 ≡ left = omega arith in
    let within : at < length nodes = at_node nodes at (suc left) h b in
    let size = get_or-map (λ n. n.size) nodes at d 0 within in
    rw (less, ← size) (omega (arith, r.ends, length-map nodes (λ n. n.size)), r.begin, r.same)

-- ---- one step of filling in

-- after a number of children stand the sizes of this many trees
begin_at : {N : Type 0} (t : Tree N) (at c : ℕ) (rest : List ℕ) → at < length (flatten t)
    → drop at (counts_of (flatten t)) ≡ c ∷ rest → Begin c (sizes_grown rest)
begin_at {N} t at c rest h e =
    let r = stands t at h in
    let here =
    drop-map (λ (e : Listed N). e.children) at (flatten t) ∙ ap counts_of r.stands.entries in
    let first : c ≡ count r.below = cc in
    let others : rest ≡ counts_of (flatten_all r.below ++ flatten_all r.others) = cc in
    rw (first, others) (begin_children r.below r.others)

counts_at : (sets : List (Described SetKey InformationSet))
    (nodes : List Stored) (at : ℕ) (d : Stored) → at < length nodes
    → drop at (child_counts sets (map kept_of nodes)) ≡ child_count sets (get_or nodes at d).set
    ∷ drop (suc at) (child_counts sets (map kept_of nodes))
counts_at sets (n ∷ nodes) (suc at) d h = counts_at sets nodes at d (omega (arith, h))
counts_at sets nodes at d h = grind arith

-- the sizes are filled in from this place on
pub record Filled {N : Type 0} (sets : List (Described SetKey InformationSet)) (t : Tree N)
    (old nodes : List Stored) (next : ℕ) : Type 0 where
  pub some : 0 < next
  pub within : next ≤ length nodes
  pub kept : map kept_of nodes ≡ map kept_of old
  pub sizes : drop next (sizes_of nodes)
      ≡ sizes_grown (drop next (child_counts sets (map kept_of old)))
  pub counts : counts_of (flatten t) ≡ child_counts sets (map kept_of old)

same_counts : {N : Type 0} (sets : List (Described SetKey InformationSet))
    (t : Tree N) (old nodes : List Stored) (next : ℕ) → Filled sets t old nodes next
    → counts_of (flatten t) ≡ child_counts sets (map kept_of nodes)
same_counts sets t old nodes next f = f.counts ∙ ap (child_counts sets) (sym f.kept)

pub filled_begin : {N : Type 0} (sets : List (Described SetKey InformationSet))
    (t : Tree N) (old nodes : List Stored) (next : ℕ) (d : Stored) → Filled sets t old nodes next
    → Begin (child_count sets (get_or nodes (next - 1) d).set)
    (drop (next - 1 + 1) (sizes_of nodes))
filled_begin sets t old nodes zero d f = absurd (omega (arith, f.some))
filled_begin {N} sets t old nodes (suc at) d f =
    grind (arith, same_counts, length-map, begin_at, get_or, counts_at)

pub filled_more : {N : Type 0} (sets : List (Described SetKey InformationSet))
    (t : Tree N) (old nodes : List Stored) (next : ℕ) (d x : Stored) → Filled sets t old nodes next
    → x.size ≡ 1 + skipped (child_count sets (get_or nodes (next - 1) d).set)
    (drop (next - 1 + 1) (sizes_of nodes)) → drop (next - 1) (sizes_of (set nodes (next - 1) x))
    ≡ sizes_grown (drop (next - 1) (child_counts sets (map kept_of old)))
filled_more sets t old nodes next d x h h2 = grind (arith, length-map, map-set, drop-set, counts_at)

pub filled_all : {N : Type 0} (sets : List (Described SetKey InformationSet))
    (old nodes : List Stored)
    → drop 0 (sizes_of nodes) ≡ sizes_grown (drop 0 (child_counts sets (map kept_of old)))
    → (t : Tree N) → counts_of (flatten t) ≡ child_counts sets (map kept_of old)
    → sizes_of nodes ≡ subtree_sizes t
filled_all sets old nodes e t counts = e ∙ ap sizes_grown (sym counts) ∙ sizes_are t

pub set_placed : (old nodes : List Stored) (sets outcomes at : ℕ) (d : Stored) → at < length nodes
    → map kept_of nodes ≡ map kept_of old
    → AreAmong sets outcomes (map kept_of old) → (get_or nodes at d).set ≤ sets
set_placed old nodes sets outcomes at d h kept placed =
    of_kept nodes at h (subst (AreAmong sets outcomes) (sym kept) placed)
  where
    of_kept : (ns : List Stored) (at : ℕ)
        → at < length ns → AreAmong sets outcomes (map kept_of ns) → (get_or ns at d).set ≤ sets
    of_kept [] at h p = absurd (omega (arith, h))
    of_kept (n ∷ ns) zero h p = p.0.set
    of_kept (n ∷ ns) (suc at) h p = of_kept ns at (omega (arith, h)) p.1

pub ruleset sizes_filled = (filled_all, filled_begin, filled_more, set_placed)
