-- The visits of a player that a walk through the tree meets show which of their sets are relevant.
use Rattle.gf_form.proofs.Common
use Common.{same_set_equality, list_any-append, option_and_then, InformationSet, FindRelevance, suc}
use Common.{action_counts, option_map_or, visit_handing, AllZip-long, AreDistinct, at_position, sym}
use Common.{place_among, player_keys, player_sets, steps_after, AreActions, length-map, AreDigits}
use Common.{choice_at, demanding, eqb-false, is_met_on, own_steps, own_visit, slice_get, visits_by}
use Common.{visits_of, eqb-true, list_any, own_step, same_set, visit_at, descent, IsGame, Option, ℕ}
use Common.{SetKey, eq-eqb, get_or, has_at, length, picked, set_at, Visit, arith, false, meets, ◌-◌}
use Common.{width, Bool, Game, List, None, Some, Stop, kept, refl, true, ◌==◌, ◌<◌, ◌^◌, ◌∷◌, ◌≡◌}
use Common.{◌≤◌, []}
use Rattle.gf_form.proofs.lemmas.rows.Digits.{none_within, no_demands, none_pack, none_met}
use Rattle.gf_form.proofs.lemmas.rows.Digits.{are_digits}
use Rattle.gf_form.proofs.lemmas.strategies.Chosen.{zip_at, keys_distinct, own_set}
use Rattle.gf_form.proofs.lemmas.reduced.Coming.{relevant_is}
use Rattle.gf_form.proofs.lemmas.rows.GameDigits.{IsAmong, among_own, said_there}
use Rattle.gf_form.proofs.lemmas.rows.Descents.{tree_kept}

-- ---- places

-- a set's place is where its key stands
place_there : (keys : List SetKey) (position : ℕ) (key : SetKey) → AreDistinct keys
    → at_position keys position ≡ Some key → place_among keys key ≡ Some (position - 1)
place_there (k ∷ keys) (suc (suc position)) key distinct at =
    grind (arith, has_at, same_set_equality, place_there keys (suc position) key distinct.1 at)
place_there keys position key distinct at = grind (arith, same_set_equality)

-- and no other set has it
same_place : (keys : List SetKey) (place : ℕ) (asked key : SetKey) → AreDistinct keys
    → slice_get keys place ≡ Some asked
    → option_map_or (λ p. p == place) (place_among keys key) false ≡ same_set asked key
same_place (k ∷ keys) (suc place) asked key distinct at =
    grind (arith, has_at, same_set_equality, same_place keys place asked key distinct.1 at)
same_place keys place asked key distinct at = grind (arith, same_set_equality)

-- ---- the visit to a node

pub visit_there : (g : Game) → IsGame g → (player demands position : ℕ) (key : SetKey)
    → key.player ≡ player → at_position (player_keys g player) position ≡ Some key
    → own_visit g player demands key ≡ Some (record { demands = demands; set = position - 1 })
visit_there g game player demands position key his at =
    grind (arith, place_there, keys_distinct, eq-eqb)

pub no_visit : (g : Game) (player mover demands : ℕ) (key : SetKey) → key.player ≡ mover
    → (mover == player) ≡ false → own_visit g player demands key ≡ None
no_visit g player mover demands key his other = grind arith

pub ruleset survey_steps = (visit_there, no_visit)

-- ---- the visits whose demands are met

module _ (player place : ℕ) (steps choices : List ℕ) where
  abbrev pub is_at : Stop ℕ → Bool
  is_at v = option_map_or (λ visit. visit.set == place) (visit_at player v) false

  all_met : (vs : List (Stop ℕ)) → list_any (is_met_on place steps choices) (visits_of player vs)
      ≡ list_any is_at (kept (meets steps choices) (λ _. 0) vs)
  all_met [] = refl
  all_met (v ∷ vs) = grind (arith, list_any-append, all_met vs)

-- ---- the digits of the player's sets

module _ (g : Game) (game : IsGame g) (player : ℕ) where
  abbrev counts : List ℕ
  counts = action_counts g player

  abbrev keys : List SetKey
  keys = player_keys g player

  abbrev owns : SetKey → Bool
  owns key = key.player == player

  own_among : (key : SetKey) (set : InformationSet) → set_at g key ≡ Some set → owns key ≡ true
      → IsAmong (player_sets g player) key set
  own_among key set is his = among_own g player key set (eqb-true key.player player his) is

  said : (xs : List ℕ) (key : SetKey) (set : InformationSet) (is : set_at g key ≡ Some set)
      (his : owns key ≡ true) → choice_at keys xs key ≡ get_or xs (own_among key set is his).place 0
  said xs key set is his =
      said_there keys xs _ key (keys_distinct g game player) (own_among key set is his).there

  module _ (all : List ℕ) (are : all ≡ steps_after 1 counts) (fits : width counts < 2 ^ 64)
      (strategy : List ℕ) (chosen : AreActions counts strategy) where
    wide : length strategy ≡ length counts
    wide = sym (AllZip-long _ strategy counts chosen)

    choice_is : (key : SetKey) (set : InformationSet) → set_at g key ≡ Some set → owns key ≡ true
        → (1 ≤ choice_at keys strategy key) × (choice_at keys strategy key ≤ length set.actions)
    choice_is key set is his =
        let there = said strategy key set is his in
        grind (arith, zip_at, wide, length-map, own_among)

    own_digits_are : AreDigits g owns (own_step g player all) (choice_at keys strategy)
        (picked counts counts) (picked counts strategy)
    own_digits_are =
        are_digits g owns _ _ counts strategy fits wide (λ key none. grind arith) choice_is
        (λ key set is his. grind (arith, length-map, said, choice_is, own_among key set is his))

  -- ---- the nodes to which the player's choices come

  module _ (place : ℕ) (asked : SetKey) (there : slice_get keys place ≡ Some asked) where
    is_his : asked.player ≡ player
    is_his = (own_set g player asked (has_at keys place asked there)).3

    is_asked : (o : Option SetKey) → option_map_or (λ (v : Visit). v.set == place)
        (option_and_then (own_visit g player 0) o) false ≡ option_map_or (same_set asked) o false
    is_asked None = refl
    is_asked (Some key) =
        let same = same_place keys place asked key (keys_distinct g game player) there in
        grind (arith, same_set_equality, is_his, eqb-false)

  -- ---- the whole tree

  pub find_relevance : (all : List ℕ) → all ≡ steps_after 1 counts → width counts < 2 ^ 64
      → (once : List Visit) → ((test : Visit → Bool) → list_any test once ≡ list_any test
      (visits_by g player all))
      → FindRelevance g player once
  find_relevance all are fits once same = record {
    relevant = λ strategy place key chosen there.
        let own = own_steps counts in
        let choices = picked counts strategy in
        let met = all_met player place own choices
        (descent g (demanding visit_handing g (own_step g player all)) 0 g.tree) in
        let left = tree_kept (own_digits_are all are fits strategy chosen) visit_handing
        (λ _. 0) (record { demands_are = λ n s k d. refl; below_freed = λ n s k d. refl }) g.tree
        game.children 0 (no_demands (picked counts counts))
        (sym (none_pack (picked counts counts)), none_within (picked counts counts)) in
        let is_relevant = relevant_is g game (choice_at keys strategy) player key
        (is_his place key there) (is_at player place own choices)
        (λ n. is_asked place key there n.set) in
        grind (arith, none_met);
  }
