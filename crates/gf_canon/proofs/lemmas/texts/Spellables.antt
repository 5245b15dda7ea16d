-- A canonical game can be spelled if the game can: its numbers are no greater than the greatest
-- number of the game.
use Rattle.gf_canon.proofs.Common
use Common.{outcome_number_positive, first_uses_distinct, set_number_positive, IsSpellableOutcome}
use Common.{first_use_numbers, same_set_equality, first_use_number, renumbered_node, AllByRecursion}
use Common.{InformationSet, IsSpellableSet, renumbered_set, canonical_game, used_outcomes, list_any}
use Common.{Decides-eqb, IsSpellable, mapped_from, all_of_each, AreDistinct, flatten_map, Described}
use Common.{length-map, first_uses, IsEquality, entry_used, all_images, all_weaker, used_sets, Bool}
use Common.{of_filter, eqb-true, or_cases, same_set, was_used, IsLabel, flatten, sets_of, in_keys}
use Common.{length, nat_eq, ne_eqb, SetKey, IsGame, subst, arith, true, List, Game, each, ◌≡◌, ◌^◌}
use Common.{◌<◌, eqb, ◌∷◌, map, sym, ◌∙◌, Has, [], ℕ}
use Rattle.std.specs.List.{IsDistinct}
use Rattle.std.proofs.lemmas.Map.Steps.{length-le_from_distinct_below}
use Rattle.gf_tree.specs.Description.{Outcome}
use Rattle.gf_tree.proofs.Offered.{AreApart, number_at_most, own_set}

-- ---- different numbers from 1 below a bound are fewer than it

distinct_tests : (xs : List ℕ) → AreDistinct xs → IsDistinct eqb xs
unfolding IsDistinct
distinct_tests [] h = tt
distinct_tests (x ∷ xs) h = grind (arith, all_of_each, ne_eqb, distinct_tests xs h.1)

among : (xs : List ℕ) (q : ℕ) → list_any (eqb q) xs ≡ true → Has xs q
among [] q h = absurd cc
among (x ∷ xs) q h = grind (arith, or_cases, eqb-true, among xs q)

few : (xs : List ℕ) (n : ℕ) → 0 < n → AreDistinct xs → AllByRecursion (λ x. (0 < x) × (x < n)) xs
    → length xs < n
few xs n some distinct all =
    length-le_from_distinct_below (0 ∷ xs) n (distinct_tests (0 ∷ xs)
    (λ i. let h = each (λ x. (0 < x) × (x < n)) xs 0 all i in omega arith, distinct))
    (λ q h. grind (arith, among, each (λ x. (0 < x) × (x < n)) xs q all))

distinct_images : {K L : Type 0} (f : K → L) (ks : List K) → AreApart f ks → AreDistinct ks
    → AreDistinct (map f ks)
distinct_images f [] apart h = tt
distinct_images f (k ∷ ks) apart h = grind (arith, mapped_from, distinct_images f ks)

number_below : {K : Type 0} (same : K → K → Bool) → IsEquality same
    → (value : K → ℕ) (ks : List K) (key : K) (n : ℕ) → 0 < n → Has ks key → AreApart value ks
    → ((k : K) → Has ks k → (0 < value k) × (value k < n)) → first_use_number same ks key < n
number_below same equality value ks key n some i apart small =
    let us = first_uses same ks in
    let once = first_uses_distinct same equality ks in
    let images = distinct_images value us (grind (arith, apart, was_used same ks)) once in
    let all = all_of_each (λ x. (0 < x) × (x < n)) (map value us)
    (λ x j. grind (arith, mapped_from, was_used, small)) in
    let size = few (map value us) n some images all in
    omega (arith, size, length-map us value, number_at_most same equality ks key i)

-- ---- the canonical game

-- what holds of the key of each entry holds of each key that is used
of_used : {K D : Type 0} (same : K → K → Bool) → IsEquality same
    → (used : List K) (es : List (Described K D)) → map (λ e. e.key) es ≡ first_uses same used
    → (P : K → Type 0) → AllByRecursion (λ e. P e.key) es → (key : K) → Has used key → P key
of_used same equality used es entries P all key i =
    let e = mapped_from (λ e. e.key) es key (in_keys same equality used es key entries i) in
    subst P e.2 (each (λ e. P e.key) es e.0 all e.1)

pub canonical_is_spellable : (g : Game) → IsGame g → IsSpellable g → IsSpellable (canonical_game g)
canonical_is_spellable g game can = record {
  title = can.title;
  comment = can.comment;
  players = can.players;
  nodes = subst (AllByRecursion (λ e. IsLabel e.node.name))
      (sym (flatten_map (renumbered_node (first_use_numbers g)) g.tree))
      (all_images _ _ (flatten g.tree) can.nodes);
  sets = all_images _ _ g.sets (all_of_each _ g.sets set);
  outcomes = all_images _ _ g.outcomes (all_of_each _ g.outcomes outcome);
}
  where
    set_small : (key : SetKey) → Has (used_sets g.tree) key
        → (0 < key.number) × (key.number < 2 ^ 32)
    set_small key i = (
      set_number_positive g game key i,
      of_used same_set same_set_equality (used_sets g.tree) g.sets game.one_entry_each_set
          (λ k. k.number < 2 ^ 32) (all_weaker _ _ (λ s h. h.number) g.sets can.sets) key i,
    )

    outcome_small : (number : ℕ) → Has (used_outcomes g.tree) number
        → (0 < number) × (number < 2 ^ 32)
    outcome_small number i = (
      outcome_number_positive g game number i,
      of_used nat_eq Decides-eqb (used_outcomes g.tree) g.outcomes game.one_entry_each_outcome
          (λ n. n < 2 ^ 32) (all_weaker _ _ (λ o h. h.number) g.outcomes can.outcomes) number i,
    )

    own : (player : ℕ) (key : SetKey) → Has (sets_of player (used_sets g.tree)) key
        → Has (used_sets g.tree) key × (key.player ≡ player)
    own player key i = grind (arith, of_filter, eqb-true)

    set : (s : Described SetKey InformationSet) → Has g.sets s → IsSpellableSet
        (record { key = renumbered_set (first_use_numbers g) s.key; description = s.description })
    set s i =
        let was = each IsSpellableSet g.sets s can.sets i in
        let player = s.key.player in
        let used = entry_used same_set (used_sets g.tree) g.sets s game.one_entry_each_set i in
        let apart : AreApart (λ (key : SetKey). key.number) (sets_of player (used_sets g.tree)) =
        λ a b p q e.
        let same : a.player ≡ b.player = (own player a p).1 ∙ sym (own player b q).1 in
        λ j. record { player = same j; number = e j } in
        let number = number_below same_set same_set_equality (λ (key : SetKey). key.number)
        (sets_of player (used_sets g.tree)) s.key (2 ^ 32) (omega arith) (own_set g s.key used)
        apart (λ key p. set_small key (own player key p).0) in
        assumption (was, number)

    outcome : (o : Described ℕ Outcome) → Has g.outcomes o → IsSpellableOutcome
        (record { key = (first_use_numbers g).outcome o.key; description = o.description })
    outcome o i =
        let was = each IsSpellableOutcome g.outcomes o can.outcomes i in
        let used =
        entry_used nat_eq (used_outcomes g.tree) g.outcomes o game.one_entry_each_outcome i in
        let number = number_below nat_eq Decides-eqb (λ n. n) (used_outcomes g.tree) o.key
        (2 ^ 32) (omega arith) used (λ a b p q e. e) outcome_small in
        assumption (was, number)
