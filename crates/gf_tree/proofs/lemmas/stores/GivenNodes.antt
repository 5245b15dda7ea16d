-- The nodes of a game as they are kept, given one after another, are those that a file gives.
use Rattle.gf_tree.proofs.Common.{filter_map-append, description_at, append_assoc, entries_with, []}
use Rattle.gf_tree.proofs.Common.{cons_option, Decides-eqb, at_position, option_map, append-nil, ap}
use Rattle.gf_tree.proofs.Common.{filter_map, map-append, first_uses, file_nodes, entry_with, arith}
use Rattle.gf_tree.proofs.Common.{Described, use_after, told_from, told_node, same_set, AreAmong, ℕ}
use Rattle.gf_tree.proofs.Common.{use_with, flatten, IsAmong, length, Option, nat_eq, SetKey, ◌==◌}
use Rattle.gf_tree.proofs.Common.{IsGame, Listed, OfFile, zero, List, ◌++◌, Some, refl, Game, Node}
use Rattle.gf_tree.proofs.Common.{Kept, Bool, ◌≡◌, suc, ◌≤◌, ◌∷◌, map, max, sym, ◌∙◌}
use Rattle.std.proofs.Math.Nat.{max-zero}
use Rattle.gf_tree.specs.FileNodes.{node_after, with_those_before}
use Rattle.gf_tree.proofs.lemmas.stores.KnownKeys.{known_there, use_there}
use Rattle.gf_tree.proofs.lemmas.games.Members.{map_same, map_twice, something_there}
use Rattle.gf_tree.proofs.lemmas.games.TreesOnce.{same_set_equality}
use Rattle.gf_tree.proofs.lemmas.games.Uses.{IsEquality}

-- ---- the use at a position, after other uses

-- this use comes after those before, and stands for the key at this position
record IsUse {K D : Type 0} (same : K → K → Bool) (known : List (Described K D))
    (before after : List K) (used : Option K) (position met : ℕ) : Type 0 where
  all : map (λ d. d.key) known ≡ first_uses same (before ++ cons_option used after)
  is : used ≡ option_map (λ d. d.key) (at_position known position)
  within : position ≤ length known
  met_are : met ≡ length (first_uses same before)

module _ {K D : Type 0} {same : K → K → Bool} (tells : IsEquality same)
    {known : List (Described K D)} {before after : List K} {used : Option K} where
  use_given : (position met : ℕ) → IsUse same known before after used position met
      → option_map (use_after same (description_at same known) before) used
      ≡ option_map (λ d. use_with d.key (position == suc met) d.description)
      (at_position known position)
  use_given position met h = grind (arith, something_there, option_map, use_there)

  met_given : (position met : ℕ) → IsUse same known before after used position met
      → max met position ≡ length (first_uses same (before ++ cons_option used []))
  met_given zero met h = grind (arith, max-zero, append-nil)
  met_given (suc k) met h =
      let d = something_there known k (omega (arith, h.within)) in
      let key : used ≡ Some d.0.key = h.is ∙ ap (option_map (λ (d : Described K D). d.key)) d.1 in
      cc (known_there same tells known before after k d.0 (h.all ∙ ap (λ o. first_uses same (before
      ++ cons_option o after)) key) d.1)

-- ---- one node after another

module _ (g : Game) (game : IsGame g) (nodes : List Kept)
    (flat : flatten g.tree ≡ entries_with g.sets g.outcomes nodes) where
  abbrev entries : List Kept → List (Listed Node)
  entries ns = entries_with g.sets g.outcomes ns

  abbrev sets_in : List Kept → List SetKey
  sets_in ns = filter_map (λ e. e.node.set) (entries ns)

  abbrev outcomes_in : List Kept → List ℕ
  outcomes_in ns = filter_map (λ e. e.node.outcome) (entries ns)

  -- these nodes are given after those in front
  record IsFront (front ns : List Kept) (met_sets met_outcomes : ℕ) : Type 0 where
    parts : nodes ≡ front ++ ns
    sets : met_sets ≡ length (first_uses same_set (sets_in front))
    outcomes : met_outcomes ≡ length (first_uses nat_eq (outcomes_in front))

  module _ (front : List Kept) (n : Kept) (ns : List Kept) (met_sets met_outcomes : ℕ)
      (here : IsFront front (n ∷ ns) met_sets met_outcomes)
      (placed : IsAmong (length g.sets) (length g.outcomes) n) where
    split : flatten g.tree ≡ entries front ++ entries (n ∷ ns)
    split = flat ∙ ap entries here.parts ∙ map-append (entry_with g.sets g.outcomes) front (n ∷ ns)

    set_here : IsUse same_set g.sets (sets_in front) (sets_in ns)
        (entry_with g.sets g.outcomes n).node.set n.set met_sets
    set_here = record {
      all = grind (arith, split, filter_map-append);
      is = refl;
      within = placed.set;
      met_are = here.sets;
    }

    outcome_here : IsUse nat_eq g.outcomes (outcomes_in front) (outcomes_in ns)
        (entry_with g.sets g.outcomes n).node.outcome n.outcome met_outcomes
    outcome_here = record {
      all = grind (arith, split, filter_map-append);
      is = refl;
      within = placed.outcome;
      met_are = here.outcomes;
    }

    node_here : (told_node OfFile g.sets g.outcomes met_sets met_outcomes n).node
        ≡ node_after g (entries front) (entry_with g.sets g.outcomes n).node
    node_here =
        let set = sym (use_given same_set_equality n.set met_sets set_here) in
        let outcome = sym (use_given Decides-eqb n.outcome met_outcomes outcome_here) in
        λ i. record { name = n.name; set = set i; outcome = outcome i }

    one_more : entries (front ++ n ∷ []) ≡ entries front ++ entries (n ∷ [])
    one_more = map-append (entry_with g.sets g.outcomes) front (n ∷ [])

    goes_on : IsFront (front ++ n ∷ []) ns (max met_sets n.set) (max met_outcomes n.outcome)
    goes_on = record {
      parts = here.parts ∙ sym (append_assoc front (n ∷ []) ns);
      sets = grind (arith, met_given, same_set_equality, set_here, one_more, filter_map-append);
      outcomes = grind (arith, met_given, outcome_here, one_more, filter_map-append);
    }

  given_after : (front ns : List Kept) (met_sets met_outcomes : ℕ)
      → IsFront front ns met_sets met_outcomes → AreAmong (length g.sets) (length g.outcomes) ns
      → map (λ t. t.node) (told_from OfFile g.sets g.outcomes met_sets met_outcomes ns)
      ≡ map (λ p. node_after g (entries front ++ p.0) p.1.node) (with_those_before (entries ns))
  given_after front [] met_sets met_outcomes here placed = refl
  given_after front (n ∷ ns) met_sets met_outcomes here placed =
      let node = node_here front n ns met_sets met_outcomes here placed.0 in
      let others = given_after (front ++ n ∷ []) ns (max met_sets n.set)
      (max met_outcomes n.outcome) (goes_on front n ns met_sets met_outcomes here placed.0)
      placed.1 ∙ ap (λ es. map (λ (p : List (Listed Node) × Listed Node).
      node_after g (es ++ p.0) p.1.node) (with_those_before (entries ns)))
      (one_more front n ns met_sets met_outcomes here placed.0) in
      (λ i. node i ∷ others i)
      ∙ sym (grind (arith, append-nil, map_twice, map_same, append_assoc))

  pub nodes_are_given : AreAmong (length g.sets) (length g.outcomes) nodes
      → map (λ t. t.node) (told_from OfFile g.sets g.outcomes 0 0 nodes) ≡ file_nodes g
  nodes_are_given placed =
      cc (given_after [] nodes 0 0 (record { parts = refl; sets = refl; outcomes = refl }) placed)
