-- The nodes that are kept, by new numbers of their sets and outcomes.
use Rattle.gf_tree.proofs.Common
use Common.{renumbered_node, actions_counted, InformationSet, renumbered_set, slice_get-map}
use Common.{subtree_sizes, entries_with, at_position, Renumbering, option_map, renumbered, map_tree}
use Common.{map_trees, Described, game_with, tree_with, flatten, Outcome, Listed, SetKey}
use Common.{others, arith, Trees, Fills, Parts, first, List, refl, Tree, more, grow, []}
use Common.{Kept, ◌≡◌, suc, ◌+◌, ◌∷◌, map, ◌∙◌, ap, ℕ}
use Rattle.gf_tree.proofs.lemmas.games.Consistent.{map_entry, flatten_map}
use Rattle.gf_tree.proofs.lemmas.stores.SubtreeSizes.{counts_of, sizes_are}

-- ---- trees grow alike

first_mapped : {N M : Type 0} (f : N → M) (n : ℕ) (ts : Trees N)
    → first n (map_trees f ts) ≡ map_trees f (first n ts)
first_mapped f (suc n) (more t ts) = ap (more (map_tree f t)) (first_mapped f n ts)
first_mapped f n ts = grind arith

others_mapped : {N M : Type 0} (f : N → M) (n : ℕ) (ts : Trees N)
    → others n (map_trees f ts) ≡ map_trees f (others n ts)
others_mapped f (suc n) (more t ts) = others_mapped f n ts
others_mapped f n ts = grind arith

grow_mapped : {N M : Type 0} (f : N → M) (es : List (Listed N))
    → grow (map (map_entry f) es) ≡ map_trees f (grow es)
grow_mapped f [] = refl
grow_mapped f (e ∷ es) = grind (arith, first_mapped, others_mapped, grow_mapped f es)

pub fills_mapped : {N M : Type 0} (f : N → M) (due : ℕ) (es : List (Listed N)) → Fills due es
    → Fills due (map (map_entry f) es)
fills_mapped f (suc due) (e ∷ es) h = fills_mapped f (e.children + due) es h
fills_mapped f due es h = grind arith

counts_mapped : {N M : Type 0} (f : N → M) (es : List (Listed N))
    → counts_of (map (map_entry f) es) ≡ counts_of es
counts_mapped f [] = refl
counts_mapped f (e ∷ es) = ap (λ xs. e.children ∷ xs) (counts_mapped f es)

pub sizes_mapped : {N M : Type 0} (f : N → M) (t : Tree N)
    → subtree_sizes (map_tree f t) ≡ subtree_sizes t
sizes_mapped f t =
    cc (sizes_are (map_tree f t), flatten_map f t, counts_mapped f (flatten t), sizes_are t)

-- ---- the entries by new numbers

at_position_map : {X Y : Type 0} (f : X → Y) (xs : List X) (k : ℕ)
    → at_position (map f xs) k ≡ option_map f (at_position xs k)
at_position_map f xs k = grind (arith, slice_get-map)

-- ---- the sets and the outcomes by new numbers

abbrev pub set_image : Renumbering → Described SetKey InformationSet
    → Described SetKey InformationSet
set_image r s = record { key = renumbered_set r s.key; description = s.description }

abbrev pub outcome_image : Renumbering → Described ℕ Outcome → Described ℕ Outcome
outcome_image r o = record { key = r.outcome o.key; description = o.description }

module _ (r : Renumbering) (sets : List (Described SetKey InformationSet))
    (outcomes : List (Described ℕ Outcome)) where
  pub entries_mapped : (ns : List Kept)
      → entries_with (map (set_image r) sets) (map (outcome_image r) outcomes) ns
      ≡ map (map_entry (renumbered_node r)) (entries_with sets outcomes ns)
  entries_mapped [] = refl
  entries_mapped (n ∷ ns) =
      let set = ap (option_map (λ s. s.key)) (at_position_map (set_image r) sets n.set)
      ∙ (grind arith) in
      let outcome =
      ap (option_map (λ o. o.key)) (at_position_map (outcome_image r) outcomes n.outcome)
      ∙ (grind arith) in
      let count = ap actions_counted (at_position_map (set_image r) sets n.set)
      ∙ (grind arith) in
      λ i. record {
        node = record { name = n.name; set = set i; outcome = outcome i };
        children = count i;
      } ∷ entries_mapped ns i

  pub tree_mapped : (ns : List Kept)
      → tree_with (map (set_image r) sets) (map (outcome_image r) outcomes) ns
      ≡ map_tree (renumbered_node r) (tree_with sets outcomes ns)
  tree_mapped ns = grind (arith, entries_mapped, grow_mapped)

-- the same parts by new numbers
abbrev pub renumbered_parts : Renumbering → Parts → Parts
renumbered_parts r p = record p {
  sets = map (set_image r) p.sets;
  outcomes = map (outcome_image r) p.outcomes;
}

pub game_mapped : (r : Renumbering) (p : Parts) (ns : List Kept)
    → game_with (renumbered_parts r p) ns ≡ renumbered r (game_with p ns)
game_mapped r p ns = grind (arith, tree_mapped)
