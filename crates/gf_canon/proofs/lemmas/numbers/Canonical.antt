-- The canonical numbers as lists.
use Rattle.gf_canon.proofs.Common
use Common.{first_use_numbers, same_set_equality, outcome_numbers, AllByRecursion, InformationSet}
use Common.{IsSpellableSet, canonical_game, used_outcomes, numbers_from, agreed_games, Decides-eqb}
use Common.{player_keys, IsSpellable, get_or-map, length-map, map-append, renumbered, IsEquality, ℕ}
use Common.{positions, Described, same_set, in_keys, length, get_or, filter, Global, ne_eqb, SetKey}
use Common.{IsGame, nat_eq, arith, Agree, zero, Bool, List, ◌++◌, refl, ◌==◌, Game, ◌≡◌, suc, ◌+◌}
use Common.{◌<◌, ◌≤◌, ◌^◌, ◌∷◌, map, Vec, Has, has, []}
use Rattle.gf_nfg.proofs.Offered.{get_or-numbers_from, length-numbers_from, numbers_joined}
use Rattle.gf_tree.specs.ListedNumbers.{AreListed, AreNumbers, listed_numbers, number_listed}
use Rattle.gf_tree.proofs.Offered.{own_key, some_player}
use Rattle.gf_canon.specs.inner.ListedInOrder.{lists_in_order}
use Rattle.gf_canon.proofs.lemmas.numbers.InOrder.{outcomes_in_order, sets_in_order}

-- ---- numbers in order

-- one more number
pub number_more : (n : ℕ) (numbers more : List ℕ) → numbers ≡ positions n
    → more ≡ numbers ++ (n + 1) ∷ [] → more ≡ positions (n + 1)
number_more n numbers more is e = let joined = numbers_joined 1 n 1 in grind arith

no_less : (first n x : ℕ) → Has (numbers_from first n) x → first ≤ x
no_less first zero x h = absurd h
no_less first (suc n) x h = grind (arith, no_less (first + 1) n x)

are_numbers : (first n : ℕ) → 0 < first → AreNumbers (numbers_from first n)
are_numbers first zero h = tt
are_numbers first (suc n) h =
    let rest = are_numbers (first + 1) n (omega arith) in
    grind (arith, no_less (first + 1) n first, has)

-- ---- a player past the last number has no sets

none_of_him : (player : ℕ) (sets : List (Described SetKey InformationSet)) → 2 ^ 32 ≤ player
    → AllByRecursion IsSpellableSet sets → filter (λ s. s.key.player == player) sets ≡ []
none_of_him player [] past h = refl
none_of_him player (s ∷ sets) past h = grind (arith, ne_eqb, none_of_him player sets past h.1)

pub no_numbers : (g : Game) (player : ℕ) → 2 ^ 32 ≤ player → IsSpellable g
    → [] ≡ positions (length (player_keys g player))
no_numbers g player past can = grind (arith, none_of_him)

-- ---- the lists of the players

abbrev pub own_list : Game → ℕ → List ℕ
own_list g player = positions (length (player_keys g player))

-- those of chance and of this many players
abbrev pub lists_through : Game → ℕ → List (List ℕ)
lists_through g players = map (own_list g) (numbers_from 0 (players + 1))

pub list_more : (g : Game) (at : ℕ) (lists more : List (Vec ℕ Global)) (own : Vec ℕ Global)
    → map (λ own. own.items) lists ≡ lists_through g at → own.items ≡ own_list g (at + 1)
    → more ≡ lists ++ own ∷ [] → map (λ own. own.items) more ≡ lists_through g (at + 1)
list_more g at lists more own before is e =
    let joined = numbers_joined 0 (at + 1) 1 in grind (arith, map-append)

own_there : (g : Game) (player : ℕ) → player ≤ length g.players
    → get_or (lists_in_order g) player [] ≡ own_list g player
own_there g player h =
    let size = length-numbers_from 0 (suc (length g.players)) in
    let at = get_or-numbers_from 0 (suc (length g.players)) player 0 (omega arith) in
    grind (arith, get_or-map)

all_numbers : (g : Game) (players : List ℕ) → AllByRecursion AreNumbers (map (own_list g) players)
all_numbers g [] = tt
all_numbers g (player ∷ players) =
    (are_numbers 1 (length (player_keys g player)) (omega arith), all_numbers g players)

listed_in_order : (g : Game)
    → AreListed g (lists_in_order g) (positions (length (outcome_numbers g)))
listed_in_order g =
    grind (arith, length-map, length-numbers_from, own_there, all_numbers, are_numbers)

-- ---- listed numbers are first-use numbers

number_of_map : {K : Type 0} (same : K → K → Bool) → IsEquality same → (f : K → ℕ) (ks : List K)
    (key : K) → Has ks key → number_listed same ks (map f ks) key ≡ f key
number_of_map same tells f [] key h = absurd h
number_of_map same tells f (k ∷ ks) key h = grind (arith, tells, number_of_map same tells f ks key)

listed_agree : (g : Game) → IsGame g
    → Agree (listed_numbers g (lists_in_order g) (positions (length (outcome_numbers g))))
    (first_use_numbers g) g.tree
listed_agree g game =
    let listed = listed_in_order g in
    let outcomes = positions (length (outcome_numbers g)) in
    record {
      sets = λ key i.
          let keys = player_keys g key.player in
          let number : SetKey → ℕ = λ k. (first_use_numbers g).set key.player k.number in
          let is = number_of_map same_set same_set_equality number keys key
          (own_key g game (lists_in_order g) outcomes listed key i) in
          let there = own_there g key.player
          (some_player g game (lists_in_order g) outcomes listed key i) in
          grind (arith, sets_in_order g key.player game);
      outcomes = λ number i.
          let is = number_of_map nat_eq Decides-eqb (first_use_numbers g).outcome
          (outcome_numbers g) number (in_keys nat_eq Decides-eqb (used_outcomes g.tree) g.outcomes
          number game.one_entry_each_outcome i) in
          grind (arith, outcomes_in_order g game);
    }

-- ---- as vectors

pub listed_by : (g : Game) (lists : List (List ℕ)) (outcomes : List ℕ) → lists ≡ lists_in_order g
    → outcomes ≡ positions (length (outcome_numbers g)) → AreListed g lists outcomes
listed_by g lists outcomes e f = rw (e, f) (listed_in_order g)

pub canonical_by : (g : Game) (lists : List (List ℕ)) (outcomes : List ℕ) → IsGame g
    → lists ≡ lists_in_order g → outcomes ≡ positions (length (outcome_numbers g))
    → renumbered (listed_numbers g lists outcomes) g ≡ canonical_game g
canonical_by g lists outcomes game e f =
    rw (e, f) (agreed_games _ (first_use_numbers g) g game (listed_agree g game))
