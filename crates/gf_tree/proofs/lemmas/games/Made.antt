-- Games that are made from others by new numbers.
use Rattle.gf_tree.proofs.Common.{IsSpellableOutcome, renumbered_node, AllByRecursion, entries_with}
use Rattle.gf_tree.proofs.Common.{InformationSet, IsSpellableSet, subtree_sizes, IsRenumbering, ◌≡◌}
use Rattle.gf_tree.proofs.Common.{Renumbering, IsSpellable, length-map, renumbered, Described, List}
use Rattle.gf_tree.proofs.Common.{game_with, tree_with, AreListed, AreNodes, flatten, Outcome, Node}
use Rattle.gf_tree.proofs.Common.{kept_of, IsLabel, length, Listed, SetKey, IsGame, Stored, IsHeld}
use Rattle.gf_tree.proofs.Common.{subst, Parts, Game, ◌<◌, ◌^◌, ◌∷◌, map, sym, ◌∙◌, [], ap, ℕ}
use Rattle.gf_tree.proofs.lemmas.games.Consistent.{map_entry, flatten_map}
use Rattle.gf_tree.proofs.lemmas.games.Renumbered.{renumbered_is_game}
use Rattle.gf_tree.proofs.lemmas.stores.RenumberedKept.{entries_mapped, fills_mapped, game_mapped}
use Rattle.gf_tree.proofs.lemmas.stores.RenumberedKept.{outcome_image, set_image, sizes_mapped}
use Rattle.gf_tree.proofs.lemmas.stores.RenumberedKept.{renumbered_parts, tree_mapped}

pub its_game : (inside value : Game) → IsGame inside → inside ≡ value → IsGame value
its_game inside value h e = subst IsGame e h

pub listed_outcomes_counted : (g : Game) (sets : List (List ℕ)) (outcomes : List ℕ)
    → AreListed g sets outcomes → length outcomes ≡ length g.outcomes
listed_outcomes_counted g sets outcomes h =
    h.each_outcome ∙ length-map g.outcomes (λ (o : Described ℕ Outcome). o.key)

-- ---- a file can hold it

names_kept : {N M : Type 0} (P : N → Type 0) (Q : M → Type 0) (f : N → M)
    → ((n : N) → P n → Q (f n)) → (es : List (Listed N))
    → AllByRecursion (λ e. P e.node) es → AllByRecursion (λ e. Q e.node) (map (map_entry f) es)
names_kept P Q f keeps [] h = tt
names_kept P Q f keeps (e ∷ es) h = (keeps e.node h.0, names_kept P Q f keeps es h.1)

sets_spelled : (r : Renumbering) (sets : List (Described SetKey InformationSet))
    → AllByRecursion IsSpellableSet sets
    → AllByRecursion (λ s. s.key.number < 2 ^ 32) (map (set_image r) sets)
    → AllByRecursion IsSpellableSet (map (set_image r) sets)
sets_spelled r [] h small = tt
sets_spelled r (s ∷ sets) h small = (
  record { player = h.0.player; number = small.0; name = h.0.name; actions = h.0.actions },
  sets_spelled r sets h.1 small.1,
)

outcomes_spelled : (r : Renumbering) (outcomes : List (Described ℕ Outcome))
    → AllByRecursion IsSpellableOutcome outcomes
    → AllByRecursion (λ o. o.key < 2 ^ 32) (map (outcome_image r) outcomes)
    → AllByRecursion IsSpellableOutcome (map (outcome_image r) outcomes)
outcomes_spelled r [] h small = tt
outcomes_spelled r (o ∷ outcomes) h small = (
  record { number = small.0; name = h.0.name; payoffs = h.0.payoffs },
  outcomes_spelled r outcomes h.1 small.1,
)

renumbered_spelled : (r : Renumbering) (g : Game) → IsSpellable g
    → AllByRecursion (λ s. s.key.number < 2 ^ 32) (renumbered r g).sets
    → AllByRecursion (λ o. o.key < 2 ^ 32) (renumbered r g).outcomes → IsSpellable (renumbered r g)
renumbered_spelled r g h sets outcomes = record {
  title = h.title;
  comment = h.comment;
  players = h.players;
  nodes =
      subst (AllByRecursion (λ (e : Listed Node). IsLabel e.node.name))
      (sym (flatten_map (renumbered_node r) g.tree))
      (names_kept (λ n. IsLabel n.name) (λ n. IsLabel n.name) (renumbered_node r) (λ n k. k)
      (flatten g.tree) h.nodes);
  sets = sets_spelled r g.sets h.sets sets;
  outcomes = outcomes_spelled r g.outcomes h.outcomes outcomes;
}

-- ---- it is held as it was

module _ (p : Parts) (nodes : List Stored) (r : Renumbering) (held : IsHeld p nodes) where
  abbrev new : Parts
  new = renumbered_parts r p

  nodes_held : AreNodes new.sets new.outcomes nodes
  nodes_held =
      let sets = p.sets in
      let outcomes = p.outcomes in
      let sets_counted : length new.sets ≡ length sets = length-map sets (set_image r) in
      let outcomes_counted : length new.outcomes ≡ length outcomes =
      length-map outcomes (outcome_image r) in
      record {
        placed = rw (sets_counted, outcomes_counted) held.nodes_are.placed;
        fills = rw (entries_mapped r sets outcomes (map kept_of nodes))
            (fills_mapped (renumbered_node r) 1 (entries_with sets outcomes (map kept_of nodes))
            held.nodes_are.fills);
        sizes = held.nodes_are.sizes
            ∙ sym (sizes_mapped (renumbered_node r) (tree_with sets outcomes (map kept_of nodes)))
            ∙ ap subtree_sizes (sym (tree_mapped r sets outcomes (map kept_of nodes)));
      }

  pub renumbered_held : IsRenumbering (game_with p (map kept_of nodes)) r
      → AllByRecursion (λ s. s.key.number < 2 ^ 32) new.sets
      → AllByRecursion (λ o. o.key < 2 ^ 32) new.outcomes → IsHeld new nodes
  renumbered_held is_new small_sets small_outcomes =
      let g = game_with p (map kept_of nodes) in
      let is = game_mapped r p (map kept_of nodes) in
      record {
        nodes_are = nodes_held;
        is_game = subst IsGame (sym is) (renumbered_is_game g r held.is_game is_new);
        spellable = subst IsSpellable (sym is)
            (renumbered_spelled r g held.spellable small_sets small_outcomes);
      }
