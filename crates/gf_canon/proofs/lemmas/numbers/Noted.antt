-- The new numbers that are noted node by node are those of the renumbering that carries one game to
-- the other.
use Rattle.gf_canon.proofs.Common
use Common.{outcome_number_positive, new_outcome_number, IsOnlyRenumbering, same_set_equality}
use Common.{renumbered_node, new_set_number, number_of_set, only_outcomes, map_entry}
use Common.{used_outcomes, agreed_games, Renumbering, cons_option, flatten_map, new_numbers, HasSet}
use Common.{HasOutcome, NewNumbers, filter_map, numbers_in, map_twice, Game}
use Common.{only_sets, set_order, unwrap_or, used_sets, BTreeMap, SameGame, contains, same_set, Has}
use Common.{Carries, flatten, nat_cmp, IsGame, IsSome, Listed, Option, SetKey, nat_eq, set_of, List}
use Common.{Agree, arith, is_eq, noted, rules, Node, None, Some, cond, refl, zero, get, has}
use Common.{inl, inr, map, suc, ◌↔◌, ◌∷◌, ◌≡◌, ◌⊎◌, [], ap, ℕ}
use Rattle.gf_canon.proofs.lemmas.numbers.Kept.{kept_outcome, same_pair, kept_set}

-- ---- one set

pub set_noted : (had now : SetKey → Option ℕ) (k m : ℕ × ℕ) (old new : Option SetKey)
    → Some (set_of k.0 k.1) ≡ old → Some (set_of m.0 m.1) ≡ new → (key : SetKey)
    → now key ≡ cond (is_eq (set_order k (key.player, key.number))) (Some m.1) (had key)
    → now key ≡ noted same_set (λ s. s.number) old new had key
set_noted had now k m old new is_old is_new key e = grind (arith, same_pair)

-- ---- keys one after another

-- Each key that has a number is one of all, and has the number that f gives it. Each of all has a
-- number or is left.
pub record AreNoted {K : Type 0} (f : K → ℕ) (had : K → Option ℕ) (all left : List K) : Type 0 where
  pub sound : (k : K) (n : ℕ) → had k ≡ Some n → Has all k × (n ≡ f k)
  pub complete : (k : K) → Has all k → IsSome (had k) ⊎ Has left k
  pub part : (k : K) → Has left k → Has all k

-- at the end
module _ {K : Type 0} (f : K → ℕ) (had : K → Option ℕ) (all : List K)
    (noted_all : AreNoted f had all []) where
  number_is : (k : K) → Has all k → had k ≡ Some (f k)
  number_is k i = grind (arith, noted_all.complete k i, noted_all.sound k)

  one_of_all : (k : K) → IsSome (had k) → Has all k
  one_of_all k some = grind (arith, noted_all.sound k)

-- ---- nodes one after another

pub record AreWalked (r : Renumbering) (g : Game) (sets : SetKey → Option ℕ)
    (outcomes : ℕ → Option ℕ) (left others : List Node) : Type 0 where
  pub images : others ≡ map (renumbered_node r) left
  pub sets_noted : AreNoted (λ k. r.set k.player k.number) sets (used_sets g.tree)
      (filter_map (λ n. n.set) left)
  pub outcomes_noted : AreNoted r.outcome outcomes (used_outcomes g.tree)
      (filter_map (λ n. n.outcome) left)

filter_of_nodes : {K : Type 0} (f : Node → Option K) (es : List (Listed Node))
    → filter_map (λ e. f e.node) es ≡ filter_map f (map (λ e. e.node) es)
filter_of_nodes f [] = refl
filter_of_nodes f (e ∷ es) = ap (cons_option (f e.node)) (filter_of_nodes f es)

module _ (r : Renumbering) (g : Game) {sets : SetKey → Option ℕ}
    {outcomes : ℕ → Option ℕ} {left others : List Node} where
  pub walk_begins : (h : Game) → Carries r g h → ((k : SetKey) → sets k ≡ None)
      → ((n : ℕ) → outcomes n ≡ None) → left ≡ map (λ e. e.node) (flatten g.tree)
      → others ≡ map (λ e. e.node) (flatten h.tree) → AreWalked r g sets outcomes left others
  walk_begins h c no_set no_outcome of_g of_h = record {
    images = grind (arith, flatten_map, map_twice, map_entry);
    sets_noted = rw (of_g, ← filter_of_nodes (λ n. n.set) (flatten g.tree)) (grind arith);
    outcomes_noted = rw (of_g, ← filter_of_nodes (λ n. n.outcome) (flatten g.tree)) (grind arith);
  }

  pub walk_goes : {sets' : SetKey → Option ℕ} {outcomes' : ℕ → Option ℕ}
      {left' others' : List Node} {n m : Node} → AreWalked r g sets outcomes left others
      → left ≡ n ∷ left' → others ≡ m ∷ others'
      → ((k : SetKey) → sets' k ≡ noted same_set (λ s. s.number) n.set m.set sets k)
      → ((k : ℕ) → outcomes' k ≡ noted nat_eq (λ i. i) n.outcome m.outcome outcomes k)
      → AreWalked r g sets' outcomes' left' others'
  walk_goes {sets'} {outcomes'} {left'} {others'} {n} {m} walked at_n at_m of_sets of_outcomes =
      grind (arith, same_set_equality)

  -- no node is left over
  pub walk_is_even : {left' : List Node} {n : Node} → AreWalked r g sets outcomes left others
      → left ≡ n ∷ left' → others ≡ [] → ⊥
  walk_is_even walked at_n none = let h = rw (at_n, none) at walked in cc h.images

-- ---- all nodes

module _ (by_set : BTreeMap (ℕ × ℕ) ℕ) (by_outcome : BTreeMap ℕ ℕ) (g h : Game) (game : IsGame g)
    (r : Renumbering) (c : Carries r g h)
    (sets : AreNoted (λ k. r.set k.player k.number) (number_of_set by_set) (used_sets g.tree) [])
    (outcomes : AreNoted r.outcome (get nat_cmp by_outcome) (used_outcomes g.tree) []) where
  abbrev found : NewNumbers
  found = numbers_in by_set by_outcome

  new_set : (player number : ℕ) → HasSet g player number
      → new_set_number found player number ≡ Some (r.set player number)
  new_set player number i =
      let own = has (used_sets g.tree) (set_of player number) i in
      cc (kept_set by_set by_outcome player number, number_is _ _ _ sets (set_of player number) own)

  new_outcome : (number : ℕ) → HasOutcome g number
      → new_outcome_number found number ≡ Some (r.outcome number)
  new_outcome zero i =
      absurd (omega (arith, outcome_number_positive g game 0 (has (used_outcomes g.tree) 0 i)))
  new_outcome (suc n) i =
      let own = has (used_outcomes g.tree) (suc n) i in
      grind (arith, kept_outcome by_set by_outcome n)

  has_set : (player number : ℕ)
      → IsSome (new_set_number found player number) ↔ HasSet g player number
  has_set player number = search (rules, contains, one_of_all, kept_set, new_set)

  has_outcome : (number : ℕ) → IsSome (new_outcome_number found number)
      ↔ ((number ≡ 0) ⊎ HasOutcome g number)
  has_outcome zero = (λ some. inl refl, λ h. refl)
  has_outcome (suc n) = (
    λ some. inr (search (rules, contains, one_of_all, kept_outcome)),
    λ h. grind (arith, new_outcome (suc n)),
  )

  set_agrees : (player number : ℕ) → HasSet g player number
      → (new_numbers found).set player number ≡ r.set player number
  set_agrees player number i = ap (λ o. unwrap_or o 0) (new_set player number i)

  outcome_agrees : (number : ℕ) → HasOutcome g number
      → (new_numbers found).outcome number ≡ r.outcome number
  outcome_agrees number i = ap (λ o. unwrap_or o 0) (new_outcome number i)

  agree : Agree (new_numbers found) r g.tree
  agree = grind (arith, set_agrees, contains, outcome_agrees)

  carried : Carries (new_numbers found) g h
  carried = grind (arith, set_agrees, outcome_agrees, agreed_games, agree)

  only_renumbering : IsOnlyRenumbering found g h
  only_renumbering =
      search (rules, has_set, has_outcome, carried, only_sets, new_set, only_outcomes, new_outcome)

pub walk_ends : (by_set : BTreeMap (ℕ × ℕ) ℕ) (by_outcome : BTreeMap ℕ ℕ) (g h : Game)
    {left others : List Node} → IsGame g → SameGame g h
    → ((r : Renumbering) → Carries r g h
    → AreWalked r g (number_of_set by_set) (get nat_cmp by_outcome) left others)
    → left ≡ [] → IsOnlyRenumbering (numbers_in by_set by_outcome) g h
walk_ends by_set by_outcome g h game (r, c) walked none =
    let w = rw none at walked r c in
    only_renumbering by_set by_outcome g h game r c w.sets_noted w.outcomes_noted

-- ---- empty maps

pub empty_sets : (m : BTreeMap (ℕ × ℕ) ℕ) → m.entries ≡ [] → (k : SetKey) → number_of_set m k ≡ None
empty_sets m e k = rw e refl

pub empty_outcomes : (m : BTreeMap ℕ ℕ) → m.entries ≡ [] → (n : ℕ) → get nat_cmp m n ≡ None
empty_outcomes m e n = rw e refl
