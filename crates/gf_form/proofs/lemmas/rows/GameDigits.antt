-- The choices of the profile with a number, which have that number among all choices at the digits;
-- and the digits of a game, which are made from its numbers of actions.
use Rattle.gf_form.proofs.Common
use Common.{unwrap_or-slice_get, div-lt_iff_lt-mul, pos_of_dvd_of_pos, length-profiles, AreDigitsOf}
use Common.{InformationSet, description_at, get_or_default, action_counts, digit_actions, AreCounts}
use Common.{full_profiles, strategies_at, mod-eq_of_lt, AreDistinct, ArePositive, all_choices, Bool}
use Common.{is_personal, mod-add-div, player_keys, player_sets, steps_after, choices_by, length-map}
use Common.{mul-le-mul, option_map, players_of, strategies, strides_of, AreDigits, AreMadeOf, arith}
use Common.{ArePlaced, Described, HasDigits, choice_at, none-some, slice_get, all_both, dvd_refl, ℕ}
use Common.{in_order, mul_comm, same_set, take-map, add-one, product, Counts, Digits, IsGame, false}
use Common.{SetKey, eq-eqb, get_or, length, mod-lt, picked, set_at, width, Game, List, Some}
use Common.{cond, find, refl, take, true, zero, ◌++◌, map, suc, sym, ◌%◌, ◌*◌, ◌+◌, ◌-◌, ◌/◌, ◌<◌}
use Common.{◌^◌, ◌∙◌, ◌∣◌, ◌∷◌, ◌≡◌, ◌≤◌, [], ap}
use Rattle.gf_form.proofs.lemmas.strategies.Chosen.{length-all_choices, strategy_before, IsChoice}
use Rattle.gf_form.proofs.lemmas.strategies.Chosen.{keys_distinct, are_choices, set_is, long}
use Rattle.gf_form.proofs.lemmas.strategies.CountedActions.{strategies_positive, actions_positive}
use Rattle.gf_form.proofs.lemmas.strategies.CountedActions.{product_positive, as_many_players}
use Rattle.gf_form.proofs.lemmas.strategies.CountedActions.{strategy_counts, product_within}
use Rattle.gf_form.proofs.lemmas.strategies.CountedActions.{product_more, next_player, of_player}
use Rattle.gf_form.proofs.lemmas.rows.Digits.{product_joined, in_order_more, faster_part, are_digits}
use Rattle.gf_form.proofs.lemmas.rows.Digits.{among_all, as_long}
use Rattle.std.proofs.Math.Nat.{dvd-mul_left_of_dvd}
use Rattle.gf_form.proofs.lemmas.strategies.PickedProfiles.{numbered_strategies, numbered}
use Rattle.gf_form.proofs.lemmas.strategies.StrategiesByNumber.{joined_at, all_at, positive_parts}
use Rattle.gf_form.proofs.lemmas.strategies.Chosen.{profile_strategies, nothing_chosen, among_his}
use Rattle.gf_form.proofs.lemmas.strategies.Chosen.{have_actions}
use Rattle.gf_form.proofs.lemmas.values.Walks.{choice_there}
use Rattle.gf_form.proofs.lemmas.strategies.StrategiesByNumber.{choices_next}

-- ---- the choices of the profile with a number

pub choice_at_number : (counts : List ℕ) (n : ℕ) → n < product counts
    → IsChoice counts (get_or (all_choices counts) n [])
choice_at_number counts n less = grind (arith, all_at, are_choices, length-all_choices)

-- ---- sets with one action

pub product_picked : (counts : List ℕ) → ArePositive counts
    → product (picked counts counts) ≡ product counts
product_picked [] h = refl
product_picked (n ∷ counts) h = grind (arith, product_picked counts h.1)

-- the choice with a number there is the choice with it at all sets
pub picked_at : (counts : List ℕ) (number : ℕ) → ArePositive counts → number < product counts
    → get_or (all_choices (picked counts counts)) number []
    ≡ picked counts (get_or (all_choices counts) number [])
picked_at (suc zero ∷ counts) number h less =
    let small : number < product counts = omega (arith, less) in
    let whole : number % product counts ≡ number = mod-eq_of_lt small in
    let next = choices_next 1 counts number (product_positive counts h.1) less in
    rw (next, whole) (picked_at counts number h.1 small)
picked_at (suc (suc n) ∷ counts) number h less =
    let same = product_picked counts h.1 in
    let some = product_positive counts h.1 in
    let next = choices_next (suc (suc n)) counts number some less in
    let there = choices_next (suc (suc n)) (picked counts counts) number (rw same some)
    (rw same less) in
    let later = picked_at counts (number % product counts) h.1 (mod-lt number some) in
    rw (there, next, same, later) refl
picked_at counts number h less = grind arith

-- with more than one action, one more is at most the square
width_square : (counts : List ℕ) → ArePositive counts
    → width counts ≤ product counts * product counts
width_square [] h = omega arith
width_square (suc (suc n) ∷ counts) h =
    let more : suc (suc n) + 1 ≤ suc (suc n) * suc (suc n) = grind arith in
    omega (arith, mul-le-mul more (width_square counts h.1), turned (suc (suc n)) (product counts))
  where
    turned : (a p : ℕ) → a * a * (p * p) ≡ a * p * (a * p)
    turned a p = grind arith
width_square (n ∷ counts) h = grind (arith, width_square counts)

pub width_fits : (counts : List ℕ) → ArePositive counts → product counts < 2 ^ 32
    → width counts < 2 ^ 64
width_fits counts h few = grind (arith, width_square, mul-le-mul)

-- ---- all players

pub product_in_order : (counts : List (List ℕ))
    → product (in_order counts) ≡ product (map product counts)
product_in_order [] = refl
product_in_order (own ∷ others) = grind (arith, product_joined, mul_comm, product_in_order others)

-- the number of a player's strategy, and what is left of the number for those after them
left : (own others number : ℕ) → number < own * others → (number % own < own)
    × (number / own < others)
left own others number less = grind arith

-- the strategies of the profile with a number: they have that number among all choices
pub in_order_numbered : (counts : List (List ℕ)) (number : ℕ)
    → number < product (map product counts)
    → (map length (numbered counts number) ≡ map length counts)
    × (in_order (numbered counts number) ≡ get_or (all_choices (in_order counts)) number [])
in_order_numbered [] number less = grind arith
in_order_numbered (own ∷ others) number less =
    let p = product own in
    let parts = left p (product (map product others)) number less in
    let later = in_order_numbered others (number / p) parts.1 in
    let joined = (joined_at (in_order others) own (number / p) (number % p)
    (omega (arith, parts.1, product_in_order others)) parts.0).1 in
    grind (arith, mod-add-div, long)

-- ---- one choice in the number of all

stride_divides : (counts : List ℕ) (i : ℕ) → i < length counts
    → get_or (strides_of counts) i 0 * get_or counts i 0 ∣ product counts
stride_divides (n ∷ counts) zero less = rw (mul_comm n (product counts)) (dvd_refl _)
stride_divides (n ∷ counts) (suc i) less =
    dvd-mul_left_of_dvd _ (stride_divides counts i (omega (arith, less))) n
stride_divides [] i less = absurd (omega arith)

pub choice_by_stride : (counts : List ℕ) (number i : ℕ) → number < product counts
    → i < length counts → get_or (get_or (all_choices counts) number []) i 0
    ≡ number / get_or (strides_of counts) i 0 % get_or counts i 0 + 1
choice_by_stride (n ∷ counts) number (suc i) less within =
    let p = product counts in
    let parts = positive_parts n p number less in
    let there : i < length counts = omega (arith, within) in
    let divides = stride_divides counts i there in
    let step = get_or (strides_of counts) i 0 in
    let c = get_or counts i 0 in
    let above : 0 < step = (positive_parts step c 0 (pos_of_dvd_of_pos divides parts.1)).0 in
    let later = choice_by_stride counts (number % p) i (mod-lt number parts.1) there in
    let same = faster_part (number / p) p (number % p) step c above divides in
    grind (arith, choices_next, mod-add-div)
choice_by_stride counts number i less within =
    grind (arith, positive_parts, div-lt_iff_lt-mul, choices_next, mod-eq_of_lt)

-- ---- a set among a player's

-- its place, which has its number of actions
pub record IsAmong (ss : List (Described SetKey InformationSet)) (key : SetKey)
    (set : InformationSet) : Type 0 where
  pub place : ℕ
  pub within : place < length ss
  pub there : slice_get (map (λ s. s.key) ss) place ≡ Some key
  pub count : get_or (map (λ s. length s.description.actions) ss) place 0 ≡ length set.actions

among : (ss : List (Described SetKey InformationSet)) (key : SetKey) (set : InformationSet)
    → description_at same_set ss key ≡ Some set → IsAmong ss key set
among [] key set is = absurd (none-some set is)
among (s ∷ ss) key set is = by (same_set s.key key) refl (among ss key set) is
  where
    by : (b : Bool)
        → same_set s.key key ≡ b → (description_at same_set ss key ≡ Some set → IsAmong ss key set)
        → option_map (λ (s : Described SetKey InformationSet). s.description)
        (cond b (Some s) (find (λ s. same_set s.key key) ss)) ≡ Some set → IsAmong (s ∷ ss) key set
    by true same others found = grind arith
    by false other others found =
        let later = others found in
        record {
          place = suc later.place;
          within = omega (arith, later.within);
          there = later.there;
          count = later.count;
        }

-- the sets of the player have theirs
pub among_own : (g : Game) (player : ℕ) (key : SetKey) (set : InformationSet)
    → key.player ≡ player → set_at g key ≡ Some set → IsAmong (player_sets g player) key set
among_own g player key set his is = grind (arith, his, among, among_his)

-- what is said of a key stands at its place
pub said_there : (keys : List SetKey) (xs : List ℕ) (place : ℕ) (key : SetKey) → AreDistinct keys
    → slice_get keys place ≡ Some key → choice_at keys xs key ≡ get_or xs place 0
said_there keys xs place key distinct there =
    choice_there keys xs (suc place) key distinct there ∙ unwrap_or-slice_get xs place 0

-- ---- the game

module _ (g : Game) (game : IsGame g) where
  positive_for : (players : List ℕ) → ArePositive (in_order (map (action_counts g) players))
  positive_for [] = tt
  positive_for (player ∷ players) = grind (arith, all_both, actions_positive, positive_for players)

  products_for : (players : List ℕ) → map product (map (action_counts g) players)
      ≡ map (λ player. length (strategies g player)) players
  products_for [] = refl
  products_for (player ∷ players) =
      λ i. sym (length-all_choices (action_counts g player)) i ∷ products_for players i

  -- there are few choices at the sets of the first players
  pub first_few : (c : Counts) → AreCounts g c → (i : ℕ) → i < length g.players
      → ArePositive (action_counts g (i + 1)
      ++ in_order (take i (map (action_counts g) (players_of g))))
      × (product (action_counts g (i + 1)
      ++ in_order (take i (map (action_counts g) (players_of g)))) < 2 ^ 32)
  first_few c are i less =
      let first = take (i + 1) (players_of g) in
      let all = strategy_counts g in
      let inside : i < length all = omega (arith, less, as_many_players) in
      let more = product_more all i inside in
      let within = product_within all i (strategies_positive g game) inside in
      let taken : product (take (i + 1) all) ≤ product all = grind (arith, add-one, more, within) in
      let count : product (in_order (map (action_counts g) first)) ≡ product (take (i + 1) all) =
      grind (arith, product_in_order, products_for, take-map) in
      let few : product (in_order (map (action_counts g) first)) < 2 ^ 32 =
      omega (arith, count, taken, length-profiles all, are.within) in
      rw (← in_order_more _ (action_counts g (i + 1)), ← next_player g (action_counts g) i less, take-map)
      (positive_for first, few)

module _ (g : Game) (game : IsGame g) (d : Digits) (values : ℕ) where
  abbrev counted : List (List ℕ)
  counted = map (action_counts g) (players_of g)

  abbrev sets : List ℕ
  sets = in_order counted

  abbrev steps : List (List ℕ)
  steps = map (λ own. own.items) d.steps.items

  as_many_choices : product (map product counted) ≡ length (full_profiles g)
  as_many_choices = cc (products_for g game (players_of g), length-profiles (strategy_counts g))

  abbrev strides : List (List ℕ)
  strides = map (λ own. own.items) d.strides.items

  module _ (digits : AreDigitsOf sets d.digits.items values)
      (made : AreMadeOf (steps_after 1) counted steps)
      (strided : AreMadeOf strides_of counted strides) (number : ℕ)
      (less : number < length (full_profiles g)) where
    abbrev profile : List (List ℕ)
    profile = strategies_at g (get_or (full_profiles g) number [])

    abbrev choices : List ℕ
    choices = get_or (all_choices (digit_actions d)) number []

    below : number < product (map product counted)
    below = omega (arith, less, as_many_choices)

    chosen : (map length profile ≡ map length counted)
        × (in_order profile ≡ get_or (all_choices sets) number [])
    chosen =
        rw (numbered_strategies g (players_of g) number (rw (products_for g game) at below)) at
        (in_order_numbered counted number below)

    choices_are : choices ≡ picked sets (in_order profile)
    choices_are = grind (arith, picked_at, positive_for g game, below, chosen, product_in_order)

    -- a player's set: its place among those of all
    his : (made : List ℕ → List ℕ) (all : List (List ℕ)) → AreMadeOf made counted all
        → (key : SetKey) (set : InformationSet) → set_at g key ≡ Some set → 0 < key.player
        → ArePlaced (made sets) sets (in_order profile) (choices_by g all key)
        (length set.actions) (choices_by g profile key)
    his made all are key set is above =
        let known = set_is g game key set is in
        let keys = player_keys g key.player in
        let here = among_own g key.player key set refl is in
        let i = key.player - 1 in
        let own : get_or counted i [] ≡ action_counts g key.player = grind (arith, of_player) in
        let said = λ (all : List (List ℕ)). sym (ap (λ (own : List ℕ). choice_at keys own key)
        (strategy_before all key.player above)
        ∙ said_there keys (get_or all i []) here.place key (keys_distinct g game key.player)
        here.there) in
        rw are.each at (among_all all counted profile i (choices_by g all key)
        (length set.actions) (choices_by g profile key) are.as_many chosen.0
        (grind (arith, length-map)))

    digits_are : AreDigits g is_personal (choices_by g steps) (choices_by g profile)
        (digit_actions d) choices
    digits_are =
        let all = full_profiles g in
        let there = get_or_default all number (get_or all number []) [] less in
        rw (choices_are, digits.actions_are) (are_digits g is_personal _ _ sets (in_order profile)
        (omega (arith, digits.fits, digits.values_are)) (as_long profile counted chosen.0)
        (λ key none. grind (arith, eq-eqb, nothing_chosen (player_keys g key.player) key))
        (λ key set is personal. have_actions g game profile
        (profile_strategies g (get_or all number []) (number, less, there)) key set is
        (grind (arith, eq-eqb)))
        (λ key set is personal. his (steps_after 1) steps made key set is
        (grind (arith, eq-eqb))))

    in_stride : (key : SetKey) (set : InformationSet) → set_at g key ≡ Some set → 0 < key.player
        → choices_by g profile key ≡ number / choices_by g strides key % length set.actions + 1
    in_stride key set is above =
        let at = his strides_of strides strided key set is above in
        let choice = choice_by_stride sets number at.place
        (omega (arith, less, as_many_choices, product_in_order counted)) at.within in
        cc (at.step_is, at.count_is, at.choice_is, chosen.1, choice)

  pub has_digits : AreDigitsOf sets d.digits.items values → AreMadeOf (steps_after 1) counted steps
      → AreMadeOf strides_of counted strides → HasDigits g d
  has_digits digits made strided = record {
    steps = grind arith;
    within = grind arith;
    as_many = grind (arith, product_picked, product_in_order, positive_for g game, as_many_choices);
    choices = λ number less. digits_are digits made strided number less;
    strides = λ number less. in_stride digits made strided number less;
  }
