-- The nodes that a reader tells are those of the game by its first-use numbers, as a file gives
-- them.
use Rattle.gf_tree.proofs.Common
use Common.{first_use_numbers, renumbered_node, InformationSet, length-append, slice_get-map, arith}
use Common.{used_outcomes, entries_with, told_outcome, Decides-eqb, Renumbering, ByFirstUse, Format}
use Common.{file_nodes, length-map, map-append, option_map, renumbered, Described, slice_get, subst}
use Common.{told_from, used_sets, AreAmong, known_of, same_set, told_set, Content, Outcome, flatten}
use Common.{game_in, no_node, nothing, sets_of, IsGame, Lexeme, OfFile, SetKey, Spells, eq-eqb, map}
use Common.{filter, length, nat_eq, Bool, Game, Kept, List, Some, refl, take, true, ◌++◌, ◌==◌, max}
use Common.{run, suc, sym, ◌+◌, ◌∙◌, ◌∷◌, ◌≡◌, ◌≤◌, Ok, [], ap, ℕ}
use Rattle.gf_tree.specs.inner.GameParts.{game_by}
use Rattle.gf_tree.specs.declared.game.numbered_node.Numbering.{Numbering}
use Rattle.gf_tree.proofs.lemmas.games.FirstUseNumbers.{number_at}
use Rattle.gf_tree.proofs.lemmas.games.PlayerSets.{sets_by_first_use}
use Rattle.gf_tree.proofs.lemmas.stores.GameNodes.{flatten_grown}
use Rattle.gf_tree.proofs.lemmas.stores.GivenNodes.{nodes_are_given}
use Rattle.gf_tree.proofs.lemmas.games.Consistent.{map_entry, flatten_map}
use Rattle.gf_tree.proofs.lemmas.stores.KnownKeys.{around}
use Rattle.gf_tree.proofs.lemmas.games.TreesOnce.{same_set_equality}
use Rattle.gf_tree.proofs.lemmas.games.Members.{filter_last, something_there}
use Rattle.gf_tree.proofs.lemmas.reader.Games.{read_fills, read_is_game}
use Rattle.gf_tree.proofs.lemmas.games.Renumbered.{first_use_is_renumbering, renumbered_is_game}
use Rattle.gf_tree.proofs.lemmas.stores.RenumberedKept.{entries_mapped, outcome_image, set_image}

-- ---- lists

taken_through : {A : Type 0} (front : List A) (x : A) (back : List A)
    → take (suc (length front)) (front ++ x ∷ back) ≡ front ++ x ∷ []
taken_through [] x back = refl
taken_through (y ∷ front) x back = ap (λ ys. y ∷ ys) (taken_through front x back)

-- ---- first-use numbers by positions

module _ (g : Game) (game : IsGame g) where
  abbrev numbers : Renumbering
  numbers = first_use_numbers g

  abbrev canonical : Game
  canonical = renumbered numbers g

  set_number : (k : ℕ) (s : Described SetKey InformationSet) → slice_get g.sets k ≡ Some s
      → numbers.set s.key.player s.key.number ≡ length (known_of s.key.player (take (suc k) g.sets))
  set_number k s there =
      let r = around g.sets k s there in
      let his : Described SetKey InformationSet → Bool = λ x. x.key.player == s.key.player in
      let key_of : Described SetKey InformationSet → SetKey = λ x. x.key in
      let passes : his s ≡ true = eq-eqb s.key.player s.key.player refl in
      let in_order =
      sym (sets_by_first_use g s.key.player game) ∙ ap (λ xs. map key_of (filter his xs)) r.2
      ∙ ap (map key_of) (filter_last his r.0 s r.1 passes)
      ∙ map-append key_of (filter his r.0) (s ∷ filter his r.1) in
      let taken : length (filter his (take (suc k) g.sets)) ≡ length (filter his r.0) + 1 =
      ap (λ n. length (filter his (take (suc n) g.sets))) (sym r.3)
      ∙ ap (λ xs. length (filter his (take (suc (length r.0)) xs))) r.2
      ∙ ap (λ xs. length (filter his xs)) (taken_through r.0 s r.1)
      ∙ ap length (filter_last his r.0 s [] passes) ∙ length-append (filter his r.0) (s ∷ []) in
      number_at same_set same_set_equality (sets_of s.key.player (used_sets g.tree))
      (map key_of (filter his r.0)) (map key_of (filter his r.1)) s.key in_order
      ∙ ap (λ n. n + 1) (length-map (filter his r.0) key_of) ∙ sym taken

  outcome_number : (k : ℕ) (o : Described ℕ Outcome) → slice_get g.outcomes k ≡ Some o
      → numbers.outcome o.key ≡ suc k
  outcome_number k o there =
      let r = around g.outcomes k o there in
      let key_of : Described ℕ Outcome → ℕ = λ x. x.key in
      number_at nat_eq Decides-eqb (used_outcomes g.tree) (map key_of r.0) (map key_of r.1) o.key
      (sym game.one_entry_each_outcome ∙ ap (map key_of) r.2 ∙ map-append key_of r.0 (o ∷ r.1))
      ∙ ap (λ n. n + 1) (length-map r.0 key_of ∙ r.3) ∙ omega arith

  -- ---- what is told of a set and of an outcome

  set_told : (p : ℕ) (described : Bool) → p ≤ length g.sets
      → told_set ByFirstUse g.sets p described ≡ told_set OfFile canonical.sets p described
  set_told p described h =
      grind (arith, something_there, slice_get, set_image, slice_get-map, option_map, set_number)

  outcome_told : (p : ℕ) (described : Bool) → p ≤ length g.outcomes
      → told_outcome ByFirstUse g.outcomes p described
      ≡ told_outcome OfFile canonical.outcomes p described
  outcome_told p described h =
      grind (arith, something_there, slice_get, outcome_image, slice_get-map, outcome_number)

  told_by_first_use : (nodes : List Kept) (met_sets met_outcomes : ℕ)
      → AreAmong (length g.sets) (length g.outcomes) nodes
      → told_from ByFirstUse g.sets g.outcomes met_sets met_outcomes nodes
      ≡ told_from OfFile canonical.sets canonical.outcomes met_sets met_outcomes nodes
  told_by_first_use [] met_sets met_outcomes placed = refl
  told_by_first_use (n ∷ ns) met_sets met_outcomes placed =
      let set = set_told n.set (n.set == suc met_sets) placed.0.set in
      let outcome = outcome_told n.outcome (n.outcome == suc met_outcomes) placed.0.outcome in
      let others =
      told_by_first_use ns (max met_sets n.set) (max met_outcomes n.outcome) placed.1 in
      λ i. record {
        node = record { name = n.name; set = set i; outcome = outcome i };
        set = n.set;
        outcome = n.outcome;
      } ∷ others i

  pub nodes_told : (numbering : Numbering) (nodes : List Kept)
      → flatten g.tree ≡ entries_with g.sets g.outcomes nodes
      → AreAmong (length g.sets) (length g.outcomes) nodes
      → map (λ t. t.node) (told_from numbering g.sets g.outcomes 0 0 nodes)
      ≡ file_nodes (game_by numbering g)
  nodes_told OfFile nodes flat placed = nodes_are_given g game nodes flat placed
  nodes_told ByFirstUse nodes flat placed =
      ap (map (λ t. t.node)) (told_by_first_use nodes 0 0 placed)
      ∙ nodes_are_given canonical (renumbered_is_game g numbers game (first_use_is_renumbering g))
      nodes (flatten_map (renumbered_node numbers) g.tree
      ∙ ap (map (map_entry (renumbered_node numbers))) flat
      ∙ sym (entries_mapped numbers g.sets g.outcomes nodes))
      (subst (λ (n : ℕ). AreAmong n (length canonical.outcomes) nodes)
      (sym (length-map g.sets (set_image numbers)))
      (subst (λ (n : ℕ). AreAmong (length g.sets) n nodes)
      (sym (length-map g.outcomes (outcome_image numbers))) placed))

-- ---- what is told of a file

pub told_of_file : (bytes : List ℕ) (ls : List Lexeme) (c : Content) (nodes : List Kept)
    → Spells 0 bytes ls → run (length bytes) Format nothing ls ≡ Ok c
    → c.nodes ≡ entries_with c.sets c.outcomes nodes
    → AreAmong (length c.sets) (length c.outcomes) nodes
    → map (λ t. t.node) (told_from ByFirstUse c.sets c.outcomes 0 0 nodes)
    ≡ file_nodes (renumbered (first_use_numbers (game_in c)) (game_in c))
told_of_file bytes ls c nodes spelled e kept placed =
    nodes_told (game_in c) (read_is_game bytes ls c spelled e) ByFirstUse nodes
    (flatten_grown no_node c.nodes (read_fills bytes ls c e) ∙ kept) placed
