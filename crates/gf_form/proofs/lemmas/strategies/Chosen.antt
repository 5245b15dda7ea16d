-- What is found in a list whose elements all have a property, and the information sets of a game
-- by their keys. All choices at sets with this many actions each: every one is in the list, once
-- and at its place. The strategies of a profile choose an action at each set, and chance has none.
use Rattle.gf_form.proofs.Common
use Common.{first_uses_distinct, get_or-numbers_from, length-numbers_from, unwrap_or-slice_get, Has}
use Common.{get_or_append_left, recursion_from_All, All-from_recursion, get_or-append-add, eqb-true}
use Common.{same_set_equality, sets_by_first_use, div-lt_iff_lt-mul, mul-le-mul_right, numbers_from}
use Common.{Contains-get_or, All-from_get_or, AllByRecursion, InformationSet, IsFirstWithout, IsSet}
use Common.{get_or_default, description_at, length-append, every_profile, action_counts, all_images}
use Common.{strategies_at, full_profiles, All-contains, AllZip-long, AreDistinct, all_of_each, Bool}
use Common.{at_position, mapped_from, player_keys, strategy_at, all_choices, div-add-mod, Described}
use Common.{player_sets, option_map, get_or-map, length-map, strategies, players_of, choices_by, []}
use Common.{HasActions, zero_ratio, of_filter, positions, slice_get, used_sets, IsProfile, flat_map}
use Common.{choice_at, payoff_at, same_set, Contains, product, AllZip, IfSome, IsGame, SetKey, Game}
use Common.{get_or, length, set_at, mod-lt, filter, arith, subst, List, Some, find, refl, true, has}
use Common.{◌++◌, Node, map, suc, sym, ◌*◌, ◌+◌, ◌-◌, ◌<◌, ◌↔◌, ◌∙◌, ◌∷◌, ◌≡◌, ◌≤◌, ◌%◌, ◌/◌, rules}
use Common.{zip, ap, ℕ}
use Rattle.gf_tree.specs.FirstUse.{sets_of}

pub all_mapped : {A B : Type 0} (P : B → Type 0) (f : A → B) (xs : List A) → ((x : A) → P (f x))
    → AllByRecursion P (map f xs)
all_mapped P f xs h = all_images P f xs (all_of_each (λ x. P (f x)) xs (λ x _. h x))

pub each_at : {A : Type 0} (P : A → Type 0) (xs : List A) (position : ℕ) → AllByRecursion P xs
    → IfSome (at_position xs position) P
each_at P (x ∷ xs) (suc (suc k)) h = each_at P xs (suc k) h.1
each_at P xs position h = grind arith

-- what is said of the elements is said of what a test finds, by what it is described as
pub each_described : {A B : Type 0} (P : A → Type 0) (Q : B → Type 0) (f : A → B) (test : A → Bool)
    (xs : List A) → ((x : A) → P x → test x ≡ true → Q (f x)) → AllByRecursion P xs
    → IfSome (option_map f (find test xs)) Q
each_described P Q f test [] said h = tt
each_described {A} P Q f test (x ∷ xs) said h = grind (arith, each_described P Q f test xs said h.1)

pub there : {A : Type 0} (xs : List A) (i : ℕ) (d : A) → i < length xs → Has xs (get_or xs i d)
there xs i d less = has xs (get_or xs i d) (Contains-get_or xs i d less)

-- ---- positions

pub next_position : {A : Type 0} (xs : List A) (i : ℕ) → at_position xs (1 + i) ≡ slice_get xs i
next_position xs i = let next : 1 + i ≡ suc i = omega arith in ap (at_position xs) next

pub strategy_before : {A : Type 0} (xs : List (List A)) (position : ℕ) → 1 ≤ position
    → strategy_at xs position ≡ get_or xs (position - 1) []
strategy_before xs position above = grind (arith, next_position, unwrap_or-slice_get)

-- numbers in turn give the elements of a list in turn
pub in_turn : {A : Type 0} (f : ℕ → A) (k : ℕ) (xs : List A) (d : A)
    → ((i : ℕ) → i < length xs → f (k + i) ≡ get_or xs i d)
    → map f (numbers_from k (length xs)) ≡ xs
in_turn f k [] d each = refl
in_turn f k (x ∷ xs) d each =
    let start : k ≡ k + 0 = omega arith in
    let others = in_turn f (k + 1) xs d (λ i h. let next : k + 1 + i ≡ k + suc i = omega arith in ap
    f next ∙ each (suc i) (omega arith)) in
    grind arith

-- ---- lists of one length, one after another

pub row_count : {A B : Type 0} (f : A → List B) (n : ℕ) → ((x : A) → length (f x) ≡ n)
    → (xs : List A) → length (flat_map f xs) ≡ length xs * n
row_count f n each [] = omega arith
row_count f n each (x ∷ xs) = grind (arith, length-append, each x, row_count f n each xs)

pub row_at : {A B : Type 0} (f : A → List B) (n : ℕ) → ((x : A) → length (f x) ≡ n) → (xs : List A)
    (i j : ℕ) (d : A) (e : B) → i < length xs → j < n
    → get_or (flat_map f xs) (i * n + j) e ≡ get_or (f (get_or xs i d)) j e
row_at f n each (x ∷ xs) (suc i) j d e less within =
    grind (arith, row_at f n each xs i j d e (omega (arith, less)) within, get_or-append-add)
row_at f n each xs i j d e less within = grind (arith, get_or_append_left)

-- ---- lists place by place

pub zip_by_places : {A B : Type 0} (R : A → B → Type 0) (d : A) (e : B) (xs : List A) (ys : List B)
    → length xs ≡ length ys → ((k : ℕ) → k < length xs → R (get_or xs k d) (get_or ys k e))
    → AllZip R xs ys
zip_by_places R d e (x ∷ xs) (y ∷ ys) count h = (
  h 0 (omega arith),
  zip_by_places R d e xs ys (omega (arith, count)) (λ k less. h (suc k) (omega (arith, less))),
)
zip_by_places R d e xs ys count h = grind arith

pub zip_at : {A B : Type 0} (R : A → B → Type 0) (d : A) (e : B) (xs : List A) (ys : List B)
    → AllZip R xs ys → (k : ℕ) → k < length xs → R (get_or xs k d) (get_or ys k e)
zip_at R d e (x ∷ xs) (y ∷ ys) h (suc k) less = zip_at R d e xs ys h.1 k (omega (arith, less))
zip_at R d e xs ys h k less = grind arith

-- numbered in turn from 1
pub zip_in_turn : {A : Type 0} (R : A → ℕ → Type 0) (d : A) (xs : List A) (n : ℕ) → length xs ≡ n
    → ((k : ℕ) → k < n → R (get_or xs k d) (suc k)) → AllZip R xs (positions n)
zip_in_turn R d xs n long h =
    zip_by_places R d 0 xs (positions n) (long ∙ sym (length-numbers_from 1 n))
    (grind (arith, long, get_or-numbers_from))

pub all_in_turn : (P : ℕ → Type 0) (first n : ℕ) → ((k : ℕ) → k < n → P (first + k))
    → AllByRecursion P (numbers_from first n)
all_in_turn P first n h =
    grind (arith, get_or-numbers_from, length-numbers_from, numbers_from, recursion_from_All)

pub zip_counted : {A : Type 0} (R : A → ℕ → Type 0) (d : A) (xs : List A) (n : ℕ)
    → AllZip R xs (positions n) → (k : ℕ) → k < length xs → R (get_or xs k d) (k + 1)
zip_counted R d xs n h k less =
    let long = AllZip-long R xs (positions n) h in
    let there = get_or-numbers_from 1 n k 0 (omega (arith, less, long, length-numbers_from 1 n)) in
    grind (arith, zip_at, there)

pub all_right : {A B : Type 0} (R : A → B → Type 0) (P : B → Type 0)
    → ((x : A) (y : B) → R x y → P y) → (xs : List A) (ys : List B) → AllZip R xs ys
    → AllByRecursion P ys
all_right R P each (x ∷ xs) (y ∷ ys) h = (each x y h.0, all_right R P each xs ys h.1)
all_right R P each xs ys h = grind arith

zip_both : {A B : Type 0} (R : A → B → Type 0) (xs more : List A) (ys bs : List B) → AllZip R xs ys
    → AllZip R more bs → AllZip R (xs ++ more) (ys ++ bs)
zip_both R (x ∷ xs) more (y ∷ ys) bs h k = (h.0, zip_both R xs more ys bs h.1 k)
zip_both R xs more ys bs h k = grind arith

pub zip_flat : {A B C D : Type 0} (R : A → B → Type 0) (S : C → D → Type 0) (f : A → List C)
    (h : B → List D) → ((x : A) (y : B) → R x y → AllZip S (f x) (h y)) → (xs : List A)
    (ys : List B) → AllZip R xs ys → AllZip S (flat_map f xs) (flat_map h ys)
zip_flat R S f h each (x ∷ xs) (y ∷ ys) all =
    grind (arith, zip_both, zip_flat R S f h each xs ys all.1)
zip_flat R S f h each xs ys all = grind arith

-- ---- what holds of one list in turn exactly when it holds of the other

pub all_alike : {A B : Type 0} (P : A → Type 0) (Q : B → Type 0) (xs : List A) (ys : List B)
    → AllZip (λ x y. P x ↔ Q y) xs ys → AllByRecursion P xs → AllByRecursion Q ys
all_alike P Q (x ∷ xs) (y ∷ ys) h all = (h.0.0 all.0, all_alike P Q xs ys h.1 all.1)
all_alike P Q xs ys h all = grind arith

alike_at : {A B : Type 0} (P : A → Type 0) (Q : B → Type 0) (xs : List A) (ys : List B)
    (position : ℕ) (x : A) → AllZip (λ x y. P x ↔ Q y) xs ys → at_position xs position ≡ Some x
    → (y : B) × (at_position ys position ≡ Some y) × (P x ↔ Q y)
alike_at P Q (z ∷ xs) (y ∷ ys) (suc (suc k)) x h at = alike_at P Q xs ys (suc k) x h.1 at
alike_at P Q xs ys position x h at = grind arith

pub alike_back : {A B : Type 0} (P : A → Type 0) (Q : B → Type 0) (xs : List A) (ys : List B)
    → AllZip (λ x y. P x ↔ Q y) xs ys → AllZip (λ y x. Q y ↔ P x) ys xs
alike_back P Q (x ∷ xs) (y ∷ ys) h = ((h.0.1, h.0.0), alike_back P Q xs ys h.1)
alike_back P Q xs ys h = grind arith

-- the first one of which it does not hold
pub first_alike : (P Q : List ℕ → Type 0) (ps qs : List (List ℕ)) (position : ℕ)
    → AllZip (λ p q. P p ↔ Q q) ps qs → IsFirstWithout P ps position → IsFirstWithout Q qs position
first_alike P Q ps qs position h o = grind (arith, alike_at, alike_back)

-- ---- the sets of a game: what holds for each, and whose they are

pub each_set : (g : Game) → IsGame g → (key : SetKey)
    → IfSome (set_at g key) (IsSet (length g.players) key)
each_set g game key = grind (arith, each_described, same_set, same_set_equality)

pub set_is : (g : Game) → IsGame g → (key : SetKey) (set : InformationSet) → set_at g key ≡ Some set
    → IsSet (length g.players) key set
set_is g game key set e = rw e at (each_set g game key)

-- a player's key is that of one of the game's sets, which is theirs
pub own_set : (g : Game) (player : ℕ) (key : SetKey) → Has (player_keys g player) key
    → (s : Described SetKey InformationSet) × Has g.sets s × (s.key ≡ key) × (key.player ≡ player)
own_set g player key i = grind (arith, mapped_from, of_filter, eqb-true)

-- they are apart
pub keys_distinct : (g : Game) → IsGame g → (player : ℕ) → AreDistinct (player_keys g player)
keys_distinct g game player = subst AreDistinct (sym (sets_by_first_use g player game))
    (first_uses_distinct same_set same_set_equality (sets_of player (used_sets g.tree)))

-- the choices that begin with an action
abbrev begun : List (List ℕ) → ℕ → List (List ℕ)
begun all action = map (λ others. action ∷ others) all

as_many : (all : List (List ℕ)) (action : ℕ) → length (begun all action) ≡ length all
as_many all action = length-map all (λ others. action ∷ others)

pub length-all_choices : (counts : List ℕ) → length (all_choices counts) ≡ product counts
length-all_choices [] = refl
length-all_choices (count ∷ counts) =
    let all = all_choices counts in
    let rows = row_count (begun all) (length all) (as_many all) (positions count) in
    cc (rows, length-numbers_from 1 count, length-all_choices counts)

-- an action at the first set, and a choice at the others
pub choices_row : (n : ℕ) (counts : List ℕ) (before k : ℕ) → before < n → k < product counts
    → get_or (all_choices (n ∷ counts)) (before * product counts + k) []
    ≡ (before + 1) ∷ get_or (all_choices counts) k []
choices_row n counts before k within less =
    let all = all_choices counts in
    let row = row_at (begun all) (length all) (as_many all) (positions n) before k 0 [] in
    grind (arith, get_or-map, get_or-numbers_from, length-all_choices, length-numbers_from)

pub positive_parts : (m n k : ℕ) → k < m * n → (0 < m) × (0 < n)
positive_parts m n k h = grind arith

pub choices_next : (count : ℕ) (counts : List ℕ) (rest : ℕ) → 0 < product counts
    → rest < count * product counts → get_or (all_choices (count ∷ counts)) rest []
    ≡ (rest / product counts + 1) ∷ get_or (all_choices counts) (rest % product counts) []
choices_next count counts rest some below =
    grind (arith, choices_row count counts (rest / product counts) (rest % product counts))

-- ---- every choice

-- one of this many actions at each set
abbrev pub IsChoice : List ℕ → List ℕ → Type 0
IsChoice counts choice = AllZip (λ action count. (1 ≤ action) × (action ≤ count)) choice counts

-- the place of a choice, from 0
abbrev pub place : List ℕ → List ℕ → ℕ
place (count ∷ counts) (action ∷ others) = (action - 1) * product counts + place counts others
place _ _ = 0

-- a choice stands at its place
pub at_its_place : (counts s : List ℕ) → IsChoice counts s
    → (place counts s < product counts) × (get_or (all_choices counts) (place counts s) [] ≡ s)
at_its_place (count ∷ counts) (action ∷ others) h =
    search (rules, choices_row, mul-le-mul_right, at_its_place counts others h.1)
at_its_place [] [] h = (omega arith, refl)
at_its_place counts s h = grind arith

-- and nothing else stands there
pub choice_there : (counts : List ℕ) (i : ℕ) → i < product counts
    → IsChoice counts (get_or (all_choices counts) i [])
    × (place counts (get_or (all_choices counts) i []) ≡ i)
choice_there [] i less = grind arith
choice_there (count ∷ counts) i less =
    let some = (positive_parts count (product counts) i less).1 in
    let others = choice_there counts (i % product counts) (mod-lt i some) in
    grind (arith, others, positive_parts, mod-lt, div-lt_iff_lt-mul, choices_next, div-add-mod)

pub choice_length : (counts s : List ℕ) → IsChoice counts s → length s ≡ length counts
choice_length counts s h =
    sym (AllZip-long (λ action count. (1 ≤ action) × (action ≤ count)) s counts h)

pub long : (counts : List ℕ) (n : ℕ) → n < product counts
    → length (get_or (all_choices counts) n []) ≡ length counts
long counts n less = choice_length counts _ (choice_there counts n less).0

pub place_at : (counts : List ℕ) (i : ℕ) → i < length (all_choices counts)
    → place counts (get_or (all_choices counts) i []) ≡ i
place_at counts i h = (choice_there counts i (omega (arith, h, length-all_choices counts))).1

pub are_choices : (counts : List ℕ) → AllByRecursion (IsChoice counts) (all_choices counts)
are_choices counts =
    recursion_from_All (IsChoice counts) (all_choices counts) (All-from_get_or (IsChoice counts)
    (all_choices counts) []
    (λ i h. (choice_there counts i (omega (arith, h, length-all_choices counts))).0))

-- no choice stands twice
pub choices_distinct : (counts : List ℕ) (i j : ℕ) (d : List ℕ)
    → i < length (all_choices counts) → j < length (all_choices counts)
    → get_or (all_choices counts) i d ≡ get_or (all_choices counts) j d → i ≡ j
choices_distinct counts i j d hi hj e =
    let same = get_or_default (all_choices counts) in
    cc (place_at counts i hi, place_at counts j hj, same i d [] hi, same j d [] hj)

pub every_choice : (counts choice : List ℕ)
    → Contains (all_choices counts) choice ↔ IsChoice counts choice
every_choice counts choice = (
  grind (arith, All-contains, All-from_recursion, are_choices),
  λ h.
      let at = at_its_place counts choice h in
      let less = rw (← length-all_choices counts) at at.0 in
      (place counts choice, less, get_or_default (all_choices counts) _ choice [] less ∙ at.1),
)

-- ---- a choice at each set of a list

choice_within : (key : SetKey) (ss : List (Described SetKey InformationSet)) (strategy : List ℕ)
    (set : InformationSet) → IsChoice (map (λ s. length s.description.actions) ss) strategy
    → description_at same_set ss key ≡ Some set → (1 ≤ choice_at (map (λ s. s.key) ss) strategy key)
    × (choice_at (map (λ s. s.key) ss) strategy key ≤ length set.actions)
choice_within key (s ∷ ss) (action ∷ others) set h is =
    grind (arith, choice_within key ss others set h.1)
choice_within key ss others set h is = grind arith

-- a set is found among its owner's
find_kept : {X : Type 0} (own test : X → Bool) → ((x : X) → test x ≡ true → own x ≡ true)
    → (xs : List X) → find test (filter own xs) ≡ find test xs
find_kept own test owned [] = refl
find_kept {X} own test owned (x ∷ xs) = grind (arith, find_kept own test owned xs)

pub among_his : (g : Game) (key : SetKey)
    → description_at same_set (player_sets g key.player) key ≡ set_at g key
among_his g key = grind (arith, find_kept)

-- ---- a strategy for each player

abbrev AreStrategies : Game → List (List ℕ) → List ℕ → Type 0
AreStrategies g all players =
    AllZip (λ strategy player. Contains (strategies g player) strategy) all players

module _ (g : Game) (game : IsGame g) where
  pub his_actions : (strategy : List ℕ) (key : SetKey) (set : InformationSet)
      → Contains (strategies g key.player) strategy → set_at g key ≡ Some set
      → (1 ≤ choice_at (player_keys g key.player) strategy key)
      × (choice_at (player_keys g key.player) strategy key ≤ length set.actions)
  his_actions strategy key set his is =
      choice_within key (player_sets g key.player) strategy set
      ((every_choice (action_counts g key.player) strategy).0 his) (among_his g key ∙ is)

  pub have_actions : (all : List (List ℕ)) → AreStrategies g all (players_of g)
      → HasActions g (choices_by g all)
  have_actions all h key set is above =
      let known = (set_is g game key set is).player in
      let k = key.player - 1 in
      let player : k + 1 ≡ key.player = omega arith in
      let less : k < length all = grind (arith, AllZip-long, length-numbers_from) in
      let his = rw player at (zip_counted _ [] all (length g.players) h k less) in
      grind (arith, known, k, player, less, his, his_actions, strategy_before)

-- ---- the strategies of a profile

pub strategy_there : {A : Type 0} (xs : List (List A)) (s : ℕ) → 1 ≤ s → s ≤ length xs
    → Contains xs (strategy_at xs s)
strategy_there xs s above within =
    rw (strategy_before xs s above) (Contains-get_or xs (s - 1) [] (omega arith))

are_strategies : (g : Game) (players profile : List ℕ)
    → IsProfile (map (λ player. length (strategies g player)) players) profile
    → AreStrategies g (map (λ p. strategy_at (strategies g p.0) p.1) (zip players profile)) players
are_strategies g (player ∷ players) (s ∷ profile) h =
    (strategy_there (strategies g player) s h.0.0 h.0.1, are_strategies g players profile h.1)
are_strategies g players profile h = grind arith

pub profile_strategies : (g : Game) (profile : List ℕ) → Contains (full_profiles g) profile
    → AreStrategies g (strategies_at g profile) (players_of g)
profile_strategies g profile h = grind (arith, are_strategies, every_profile)

pub nothing_chosen : (keys : List SetKey) (key : SetKey) → choice_at keys [] key ≡ 0
nothing_chosen [] key = refl
nothing_chosen (k ∷ keys) key = refl

pub chance_is_paid_nothing : (g : Game) (n : Node) → payoff_at g 0 n ≡ zero_ratio
chance_is_paid_nothing g n = grind arith

pub ruleset chance_steps = (nothing_chosen, chance_is_paid_nothing)
