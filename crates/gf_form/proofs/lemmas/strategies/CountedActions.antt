-- Numbers of actions, multiplied one after another, and what is counted for each player.
use Rattle.gf_form.proofs.Common
use Common.{first_uses_distinct, get_or-numbers_from, length-numbers_from, unwrap_or-slice_get, Vec}
use Common.{All-from_recursion, same_set_equality, mul-le-mul_left, option_and_then, AllByRecursion}
use Common.{InformationSet, AreStrategies, action_counts, slice_get-map, AllZip-long, AreDistinct}
use Common.{ArePositive, at_position, player_keys, player_sets, All-get_or, get_or-map, length-map}
use Common.{option_map, players_of, strategies, AreCounts, Described, mul_above, mul_assoc, add-one}
use Common.{of_filter, slice_get, unwrap_or, used_sets, entry_at, same_set, take-suc, product, Game}
use Common.{Counts, Global, IsGame, SetKey, filter, get_or, has_at, length, set_at, set_of}
use Common.{IsSet, arith, subst, List, Some, take, zero, ◌++◌, ◌==◌, map, suc, sym, ◌*◌}
use Common.{◌+◌, ◌<◌, ◌∙◌, ◌∷◌, ◌≡◌, ◌≤◌, [], ap, ℕ}
use Rattle.gf_form.proofs.lemmas.rows.Digits.{product_joined}
pub use Rattle.std.proofs.lemmas.List.{take_all as take_past}
use Rattle.gf_form.proofs.lemmas.strategies.Chosen.{length-all_choices, IsChoice}
use Rattle.gf_form.proofs.lemmas.strategies.Chosen.{zip_by_places, zip_in_turn, all_mapped, zip_at}

-- ---- products

pub product_more : (counts : List ℕ) (i : ℕ) → i < length counts
    → product (take (suc i) counts) ≡ product (take i counts) * get_or counts i 0
product_more counts i less =
    grind (arith, take-suc counts i 0 less, product_joined (take i counts) (get_or counts i 0 ∷ []))

pub product_positive : (counts : List ℕ) → ArePositive counts → 0 < product counts
product_positive [] h = omega arith
product_positive (c ∷ counts) h = mul_above c (product counts) h.0 (product_positive counts h.1)

pub product_within : (counts : List ℕ) (i : ℕ) → ArePositive counts → i < length counts
    → product (take i counts) * get_or counts i 0 ≤ product counts
product_within (c ∷ counts) (suc i) h less =
    grind (arith, mul_assoc, mul-le-mul_left c (product_within counts i h.1 (omega (arith, less))))
product_within (c ∷ counts) zero h less =
    omega (arith, mul-le-mul_left c (product_positive counts h.1))
product_within [] i h less = absurd (omega arith)

-- ---- the sets of a player

abbrev Known : Type 0
Known = Described SetKey InformationSet

positive_of : (players player : ℕ) (ss : List Known)
    → AllByRecursion (λ s. IsSet players s.key s.description) ss
    → ArePositive (map (λ s. length s.description.actions)
    (filter (λ s. s.key.player == player) ss))
positive_of players player [] h = tt
positive_of players player (s ∷ ss) h = grind (arith, positive_of players player ss h.1)

pub actions_positive : (g : Game) → IsGame g → (player : ℕ) → ArePositive (action_counts g player)
actions_positive g game player = positive_of (length g.players) player g.sets game.each_set

pub count_at : (g : Game) (player before : ℕ)
    → unwrap_or (at_position (action_counts g player) (before + 1)) 0
    ≡ get_or (action_counts g player) before 0
count_at g player before = grind (arith, add-one, unwrap_or-slice_get)

pub positive_at : (counts : List ℕ) (i : ℕ) → ArePositive counts → i < length counts
    → 0 < get_or counts i 0
positive_at counts i h less = grind (arith, All-get_or, All-from_recursion)

-- a player's set, by its number
his_set : (g : Game) → IsGame g → (player : ℕ) (s : Known) (k : ℕ)
    → slice_get (player_sets g player) k ≡ Some s
    → set_at g (set_of player s.key.number) ≡ Some s.description
his_set g game player s k is =
    let his = λ (s : Known). s.key.player == player in
    let there = of_filter his g.sets s (has_at (player_sets g player) k s is) in
    let distinct = subst AreDistinct (sym game.one_entry_each_set) (first_uses_distinct same_set
    same_set_equality (used_sets g.tree)) in
    grind (arith, entry_at same_set same_set_equality g.sets s distinct there.0)

-- how many actions there are at the set at a position, by its number
pub count_there : (g : Game) → IsGame g → (player position : ℕ)
    → at_position (action_counts g player) position
    ≡ option_and_then (λ number. option_map (λ set. length set.actions)
    (set_at g (set_of player number)))
    (at_position (map (λ key. key.number) (player_keys g player)) position)
count_there g game player k = grind (arith, slice_get-map, his_set)

pub choice_by_places : (choice counts : List ℕ) → length choice ≡ length counts
    → ((k : ℕ) → k < length choice
    → (1 ≤ get_or choice k 0) × (get_or choice k 0 ≤ get_or counts k 0))
    → IsChoice counts choice
choice_by_places choice counts e h = zip_by_places _ 0 0 choice counts e h

pub action_within : (choice counts : List ℕ) (k : ℕ) → IsChoice counts choice → k < length choice
    → (1 ≤ get_or choice k 0) × (get_or choice k 0 ≤ get_or counts k 0)
action_within choice counts k h less = zip_at _ 0 0 choice counts h k less

-- ---- the players

abbrev pub strategy_counts : Game → List ℕ
strategy_counts g = map (λ player. length (strategies g player)) (players_of g)

-- a player has a strategy
pub some_strategy : (g : Game) → IsGame g → (player : ℕ) → 0 < length (strategies g player)
some_strategy g game player =
    grind (arith, length-all_choices, product_positive, actions_positive g game player)

pub strategies_positive : (g : Game) → IsGame g → ArePositive (strategy_counts g)
strategies_positive g game =
    all_mapped (λ count. 0 < count) (λ player. length (strategies g player)) (players_of g)
    (some_strategy g game)

-- what is so of each player, at their place
pub of_player : {A : Type 0} (g : Game) (f : ℕ → A) (before : ℕ) (d : A)
    → before < length g.players → get_or (map f (players_of g)) before d ≡ f (before + 1)
of_player g f before d less =
    let next : 1 + before ≡ before + 1 = omega arith in
    get_or-map f (players_of g) before 0 d
    (omega (arith, less, length-numbers_from 1 (length g.players)))
    ∙ ap f (get_or-numbers_from 1 (length g.players) before 0 less ∙ next)

pub as_many_players : {A : Type 0} (g : Game) (f : ℕ → A)
    → length (map f (players_of g)) ≡ length g.players
as_many_players g f = cc (length-map (players_of g) f, length-numbers_from 1 (length g.players))

-- what is so of the players up to the next one
pub next_player : {A : Type 0} (g : Game) (f : ℕ → A) (before : ℕ) → before < length g.players
    → take (before + 1) (map f (players_of g))
    ≡ take before (map f (players_of g)) ++ f (before + 1) ∷ []
next_player g f before less =
    grind (arith, as_many_players g f, of_player g f before (f 0) less, add-one, take-suc)

pub sets_counted : (g : Game) (player : ℕ)
    → length (action_counts g player) ≡ length (player_keys g player)
sets_counted g player = grind (arith, length-map)

-- the profiles of the players so far and of the next one are no more than all
pub fits_so_far : (g : Game) (before : ℕ) → IsGame g → before < length g.players
    → product (take before (strategy_counts g)) * length (strategies g (before + 1))
    ≤ product (strategy_counts g)
fits_so_far g before game less =
    let within = product_within (strategy_counts g) before (strategies_positive g game) in
    grind (arith, within, of_player, as_many_players)

pub ruleset product_steps = (product_more, add-one)

pub ruleset count_steps = (
  length-all_choices,
  positive_at,
  actions_positive,
  count_at,
  sets_counted,
  product_within,
  product_more,
  take_past,
  take-suc,
  add-one,
)

-- ---- by place, from 0

-- what is read at a place of a list of lists
pub own_read : (all : List (Vec ℕ Global)) (i : ℕ) (own : Vec ℕ Global) (held : List ℕ)
    → i < length all → own ≡ get_or all i own → held ≡ own.items
    → held ≡ get_or (map (λ own. own.items) all) i []
own_read all i own held less is held_is = grind (arith, held_is, is, get_or-map)

pub own_at : (all : List (Vec ℕ Global)) (i : ℕ) (own : Vec ℕ Global) → i < length all
    → (get_or all i own).items ≡ get_or (map (λ own. own.items) all) i []
own_at all i own less = sym (get_or-map (λ (own : Vec ℕ Global). own.items) all i own [] less)

pub all_counted : (g : Game) (c : Counts) → AreCounts g c
    → length c.actions.items ≡ length g.players
all_counted g c counts = grind (arith, length-map, as_many_players)

pub ruleset action_steps = (count_there, length-map)

pub ruleset given_steps =
    (own_at, of_player, as_many_players, length-map, length-all_choices, some_strategy)

-- ---- strategies of all players

pub are_all : (g : Game) (all : List (List ℕ)) → length all ≡ length g.players
    → ((k : ℕ) → k < length all → IsChoice (action_counts g (suc k)) (get_or all k []))
    → AreStrategies g all
are_all g all count h =
    zip_in_turn _ [] all (length g.players) count (λ k less. h k (omega (arith, less, count)))

pub as_many_strategies : (g : Game) (all : List (List ℕ)) → AreStrategies g all
    → length all ≡ length g.players
as_many_strategies g all h =
    sym (AllZip-long _ all (players_of g) h) ∙ length-numbers_from 1 (length g.players)

pub ruleset strategy_steps = (are_all, as_many_strategies, length-map)
