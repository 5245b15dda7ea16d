-- Numbers that are listed in the order of first use are new numbers.
use Rattle.gf_tree.proofs.Common
use Common.{false_from_ne_true, outcome_numbers, AllByRecursion, InformationSet, listed_numbers, []}
use Common.{IsRenumbering, used_outcomes, number_listed, Decides-eqb, player_keys, slice_get, false}
use Common.{both_ways, Described, used_sets, AreListed, same_set, length, get_or, SetKey, set_of, ℕ}
use Common.{HasSet, IsGame, nat_eq, subst, arith, IsSet, Bool, List, Some}
use Common.{Game, ◌≡◌, suc, ◌<◌, ◌≤◌, ◌∷◌, inl, inr, ap}
use Rattle.gf_tree.specs.ListedNumbers.{AreNumbers}
use Rattle.gf_tree.proofs.lemmas.games.Carried.{in_keys}
use Rattle.gf_tree.proofs.lemmas.games.PlayerSets.{sets_by_first_use}
use Rattle.gf_tree.proofs.lemmas.games.Renumbered.{own_set, first_use_is_renumbering}
use Rattle.gf_tree.proofs.lemmas.games.TreesOnce.{same_set_equality}
use Rattle.gf_tree.proofs.lemmas.games.FirstUses.{AreDistinct, is_used}
use Rattle.gf_tree.proofs.lemmas.games.Members.{has_at}
use Rattle.gf_tree.proofs.lemmas.games.Uses.{Has, IsEquality, contains, each, has, mapped_from}

-- ---- lists of numbers

pub distinct : (ns : List ℕ) → AreNumbers ns → AreDistinct ns
distinct [] h = tt
distinct (n ∷ ns) h = (λ m. h.1 (contains ns n m), distinct ns h.2)

positive : (ns : List ℕ) (n : ℕ) → AreNumbers ns → Has ns n → 0 < n
positive [] n h i = absurd i
positive (m ∷ ns) n h (inl e) = subst (λ k. 0 < k) e h.0
positive (m ∷ ns) n h (inr i) = positive ns n h.2 i

-- ---- the number at the place of a key

module _ {K : Type 0} (same : K → K → Bool) (tells : IsEquality same) where
  pub has_number : (ks : List K) (ns : List ℕ) (key : K) → length ns ≡ length ks → Has ks key
      → Has ns (number_listed same ks ns key)
  has_number (k ∷ ks) (n ∷ ns) key e i =
      grind (arith, both_ways, has_number ks ns key (omega (arith, e)))
  has_number ks ns key e i = grind arith

  pub numbers_apart : (ks : List K) (ns : List ℕ) (a b : K) → length ns ≡ length ks → AreDistinct ns
      → Has ks a → Has ks b → number_listed same ks ns a ≡ number_listed same ks ns b → a ≡ b
  numbers_apart (k ∷ ks) (n ∷ ns) a b e d i j h =
      grind (arith, has_number, both_ways, numbers_apart ks ns a b (omega (arith, e)) d.1)
  numbers_apart ks ns a b e d i j h = grind arith

  -- it stands at the key's place
  pub number_there : (ks : List K) (ns : List ℕ) (place : ℕ) (key : K) → length ns ≡ length ks
      → AreDistinct ks → slice_get ks place ≡ Some key
      → slice_get ns place ≡ Some (number_listed same ks ns key)
  number_there (k ∷ ks) (n ∷ ns) (suc place) key e d h =
      let other : same k key ≡ false = grind (arith, false_from_ne_true, Has, has_at) in
      rw other (number_there ks ns place key (omega (arith, e)) d.1 h)
  number_there ks ns place key e d h = grind arith

-- ---- the numbers of a game

all_at : {X : Type 0} (P : X → Type 0) (xs : List X) (k : ℕ) (d : X) → AllByRecursion P xs
    → k < length xs → P (get_or xs k d)
all_at P (x ∷ xs) (suc k) d h i = all_at P xs k d h.1 (omega (arith, i))
all_at P xs k d h i = grind arith

module _ (g : Game) (game : IsGame g) (sets : List (List ℕ)) (outcomes : List ℕ)
    (listed : AreListed g sets outcomes) where
  pub own_key : (key : SetKey) → Has (used_sets g.tree) key → Has (player_keys g key.player) key
  own_key key i = grind (arith, sets_by_first_use, is_used, same_set_equality, own_set)

  pub some_player : (key : SetKey) → Has (used_sets g.tree) key → key.player ≤ length g.players
  some_player key i =
      let k =
      in_keys same_set same_set_equality (used_sets g.tree) g.sets key game.one_entry_each_set i in
      let s = mapped_from (λ (s : Described SetKey InformationSet). s.key) g.sets key k in
      let is =
      each (λ (s : Described SetKey InformationSet). IsSet (length g.players) s.key s.description)
      g.sets s.0 game.each_set s.1 in
      omega (arith, is.player, ap (λ (k : SetKey). k.player) s.2)

  pub as_long : (key : SetKey) → Has (used_sets g.tree) key
      → length (get_or sets key.player []) ≡ length (player_keys g key.player)
  as_long key i = listed.each_set key.player (some_player key i)

  own_outcome : (number : ℕ) → Has (used_outcomes g.tree) number → Has (outcome_numbers g) number
  own_outcome number i = in_keys nat_eq Decides-eqb (used_outcomes g.tree) g.outcomes number
      game.one_entry_each_outcome i

  used : (player number : ℕ) → HasSet g player number
      → Has (used_sets g.tree) (set_of player number)
  used player number h = has (used_sets g.tree) (set_of player number) h

  pub listed_is_renumbering : IsRenumbering g (listed_numbers g sets outcomes)
  listed_is_renumbering = record {
    positive_sets = λ player number h.
        let i = used player number h in
        positive (get_or sets player []) _ (grind (arith, all_at, some_player))
        (has_number same_set same_set_equality (player_keys g player) (get_or sets player [])
        (set_of player number)
        (as_long (set_of player number) i) (own_key (set_of player number) i));
    positive_outcomes = λ number h.
        positive outcomes _ listed.outcome_numbers
        (has_number nat_eq Decides-eqb (outcome_numbers g) outcomes number listed.each_outcome
        (own_outcome number (has (used_outcomes g.tree) number h)));
    sets_apart = λ player a b h k e.
        let i = used player a h in
        let j = used player b k in
        ap (λ (key : SetKey). key.number)
        (numbers_apart same_set same_set_equality (player_keys g player) (get_or sets player [])
        (set_of player a) (set_of player b)
        (as_long (set_of player a) i)
        (distinct (get_or sets player []) (grind (arith, all_at, some_player)))
        (own_key (set_of player a) i) (own_key (set_of player b) j) e);
    outcomes_apart = λ a b h k e.
        numbers_apart nat_eq Decides-eqb (outcome_numbers g) outcomes a b listed.each_outcome
        (distinct outcomes listed.outcome_numbers) (own_outcome a (has (used_outcomes g.tree) a h))
        (own_outcome b (has (used_outcomes g.tree) b k)) e;
  }

pub ruleset new_numbers = (first_use_is_renumbering, listed_is_renumbering)
