-- The first of the strategies that reduce to the same one: it has the first action wherever no
-- choice matters. And the profiles of first strategies are those of the reduced form, in its order.
use Rattle.gf_form.proofs.Common
use Common.{AreReducedPayoffsAt, unwrap_or-slice_get, ReducedOverflowsAt, false_from_ne_true, Entry}
use Common.{reduced_strategies, Any-from_list_any, AreProfileNumbers, numbered_profiles, AreFoundTo}
use Common.{same_set_equality, HasReducedValues, mul-le-mul_right, reduced_profiles, AllByRecursion}
use Common.{length-profiles, IsFirstWithout, get_or_default, is_relevant_at, length-take-le, AllZip}
use Common.{reduced_labels, IsReducedForm, action_counts, full_profiles, if◌then◌else◌, AllZip-long}
use Common.{profile_limit, relevant_sets, ArePayoffsAt, are_profiles, on_ok_weaker, AreDistinct, []}
use Common.{AreFirstsOf, IfOk-weaker, get_or-take, is_relevant, length-take, list_any_at, AreFirsts}
use Common.{player_keys, same_choice, strategy_at, IsEquality, IsFormWith, all_weaker, first_uses}
use Common.{get_or-map, known_more, length-map, map-append, more_known, mul-le-mul, reduced_at, map}
use Common.{reduced_by, strategies, ArePicked, AreRowsAt, HasValues, IsProfile, choice_at, AreBelow}
use Common.{pointwise, take_more, Contains, IsPaidAt, IsPicked, all_both, list_any, map_same, Ratio}
use Common.{numbered, take-map, IsFirst, add-one, full_at, product, reduced, IsGame, Option, SetKey}
use Common.{get_or, length, Table, arith, false, shown, Bool, Game, List, None, Some, refl, take, ℕ}
use Common.{true, zero, ◌++◌, set, suc, sym, zip, ◌*◌, ◌+◌, ◌-◌, ◌<◌, ◌↔◌, ◌∙◌, ◌∷◌, ◌≡◌, ◌≤◌, ap}
use Common.{rules}
use Rattle.std.proofs.lemmas.List.Sums.{count_by-le-length, length-filter}
use Rattle.gf_form.proofs.lemmas.strategies.Chosen.{strategy_before, choice_length, keys_distinct}
use Rattle.gf_form.proofs.lemmas.strategies.Chosen.{at_its_place, are_choices, first_alike, place}
use Rattle.gf_form.proofs.lemmas.strategies.Chosen.{all_alike, all_right, IsChoice, place_at}
use Rattle.gf_form.proofs.lemmas.reduced.ReducedForms.{choices_equality}
use Rattle.gf_form.proofs.lemmas.reduced.Reducing.{reduced_same, same_values, same_row}
use Rattle.gf_form.proofs.lemmas.strategies.StrategiesByNumber.{all_at}
use Rattle.gf_form.proofs.lemmas.strategies.CountedActions.{strategies_positive, product_positive}
use Rattle.gf_form.proofs.lemmas.strategies.CountedActions.{as_many_players, strategy_counts}
use Rattle.gf_form.proofs.lemmas.strategies.CountedActions.{sets_counted, all_counted}

-- ---- first uses

fewer_uses : {K : Type 0} (same : K → K → Bool) (ks : List K)
    → length (first_uses same ks) ≤ length ks
fewer_uses same [] = omega arith
fewer_uses same (k ∷ ks) = grind (arith, fewer_uses same ks, length-filter, count_by-le-length)

-- one key more
module _ {K : Type 0} (same : K → K → Bool) (tells : IsEquality same) (ks : List K) (i : ℕ) (d : K)
    (less : i < length ks) where
  one_more : (b : Bool) → list_any (same (get_or ks i d)) (take i ks) ≡ b
      → first_uses same (take (i + 1) ks)
      ≡ more_known same tells b (first_uses same (take i ks)) (get_or ks i d)
  one_more b used =
      ap (first_uses same) (take_more ks i d less)
      ∙ known_more same tells (take i ks) (get_or ks i d)
      ∙ ap (λ b. more_known same tells b (first_uses same (take i ks)) (get_or ks i d)) used

  -- that was used before
  used_again : (m : ℕ) → m < i → get_or ks m d ≡ get_or ks i d
      → first_uses same (take (i + 1) ks) ≡ first_uses same (take i ks)
  used_again m early is =
      one_more true (grind (arith, list_any_at, length-take-le, get_or-take))

  -- that was not
  used_first : ((m : ℕ) → m < i → ¬ (get_or ks m d ≡ get_or ks i d))
      → first_uses same (take (i + 1) ks) ≡ first_uses same (take i ks) ++ get_or ks i d ∷ []
  used_first new =
      one_more false (grind (arith, Any-from_list_any, get_or-take, get_or_default, length-take))

-- ---- strategies by flags

-- the first action at one more set
first_there : (counts s : List ℕ) (q : ℕ) → IsChoice counts s → q < length s → ¬ (get_or s q 0 ≡ 1)
    → IsChoice counts (set s q 1) × (place counts (set s q 1) < place counts s)
first_there (count ∷ counts) (a ∷ s) zero h less other =
    search (rules, at_its_place, mul-le-mul_right)
first_there (count ∷ counts) (a ∷ s) (suc q) h less other =
    grind (arith, first_there counts s q h.1 (omega (arith, less)) other)
first_there [] [] q h less other = absurd (omega (arith, less))
first_there counts s q h less other = absurd h

-- changes no choice at a set that is relevant, if that one is not
choice_kept : (relevant : SetKey → Bool) (keys : List SetKey) (s : List ℕ) (q : ℕ) (key : SetKey)
    → q < length keys → get_or (map relevant keys) q false ≡ false → relevant key ≡ true
    → choice_at keys s key ≡ choice_at keys (set s q 1) key
choice_kept relevant (k ∷ keys) (a ∷ s) (suc q) key less flag h =
    grind (arith, choice_kept relevant keys s q key)
choice_kept relevant keys s q key less flag h = grind arith

-- a strategy with the first action where the flag is not set comes before others that are shown
-- alike
place_upto : (counts : List ℕ) (fs gs : List Bool) (s t : List ℕ) → length fs ≡ length counts
    → length gs ≡ length counts → IsChoice counts s → IsChoice counts t
    → ((k : ℕ) → k < length fs → get_or fs k false ≡ false → get_or s k 0 ≡ 1)
    → shown fs s ≡ shown gs t → place counts s ≤ place counts t
place_upto (n ∷ counts) (f ∷ fs) (g ∷ gs) (a ∷ s) (b ∷ t) ef eg hs ht first e =
    let here = first 0 (omega arith) in
    let upto : a ≤ b = grind arith in
    let later = place_upto counts fs gs s t (omega (arith, ef)) (omega (arith, eg)) hs.1 ht.1 (λ k
    less. first (suc k) (omega (arith, less))) (grind arith) in
    grind (arith, mul-le-mul_right)
place_upto counts fs gs s t ef eg hs ht first e = grind arith

-- what is shown, by keys
shown_by : (relevant : SetKey → Bool) (keys : List SetKey) (s : List ℕ) → AreDistinct keys
    → length keys ≡ length s
    → map (λ key. if relevant key then Some (choice_at keys s key) else None) keys
    ≡ shown (map relevant keys) s
shown_by relevant (k ∷ keys) (a ∷ s) d e =
    let others = shown_by relevant keys s d.1 (omega (arith, e)) in
    grind (arith, others, same_set_equality, false_from_ne_true, map_same)
shown_by relevant keys s d e = grind arith

-- ---- the strategies of a player

module _ (g : Game) (game : IsGame g) (player : ℕ) where
  abbrev keys : List SetKey
  keys = player_keys g player

  abbrev counts : List ℕ
  counts = action_counts g player

  abbrev all : List (List ℕ)
  all = strategies g player

  flags_counted : (s : List ℕ) → length (relevant_sets g player s) ≡ length counts
  flags_counted s = length-map keys (is_relevant g (choice_at keys s)) ∙ sym (sets_counted g player)

  module _ (n : ℕ) (less : n < length all) where
    abbrev s : List ℕ
    s = numbered g player n

    is_choice : IsChoice counts s
    is_choice = all_at (IsChoice counts) all n [] (are_choices counts) less

    -- the strategy with a number, from 0, has an action for each flag
    pub flags_fit : length (relevant_sets g player s) ≡ length s
    flags_fit = flags_counted s ∙ sym (choice_length counts s is_choice)

    -- and what it reduces to
    pub reduced_shown_at : reduced g player s ≡ shown (relevant_sets g player s) s
    reduced_shown_at =
        shown_by (is_relevant g (choice_at keys s)) keys s (keys_distinct g game player)
        (sym (sets_counted g player) ∙ sym (choice_length counts s is_choice))

  -- an earlier strategy reduces alike
  abbrev pub IsRepeated : ℕ → Type 0
  IsRepeated n = (m : ℕ) × (m < n)
      × (reduced g player (numbered g player m) ≡ reduced g player (numbered g player n))

  -- as one does if there is another action at a set that is not relevant
  pub repeated : (n q : ℕ) → n < length all → q < length counts → is_relevant_at g player n q
      ≡ false → ¬ (get_or (numbered g player n) q 0 ≡ 1) → IsRepeated n
  repeated n q less among flag other =
      let own = numbered g player n in
      let choice = is_choice n less in
      let first = first_there counts own q choice
      (omega (arith, among, choice_length counts own choice)) other in
      let at = at_its_place counts (set own q 1) first.0 in
      let same = choice_kept (is_relevant g (choice_at keys own)) keys own q in (
        place counts (set own q 1),
        omega (arith, first.1, place_at counts n less),
        ap (reduced g player) at.1 ∙ sym (reduced_same g player own (set own q 1)
            (λ key his r. same key (omega (arith, among, sets_counted g player)) flag r)),
      )

  -- none does if it is a first one
  not_repeated : (n m : ℕ) → n < length all → m < length all → IsFirst g player n
      → reduced g player (numbered g player m) ≡ reduced g player (numbered g player n) → n ≤ m
  not_repeated n m within less first e =
      let before = place_upto counts (relevant_sets g player (numbered g player n))
      (relevant_sets g player (numbered g player m)) (numbered g player n) (numbered g player m)
      (flags_counted (numbered g player n)) (flags_counted (numbered g player m))
      (is_choice n within) (is_choice m less)
      (λ k inside. first k (omega (arith, inside, flags_counted (numbered g player n))))
      (sym (reduced_shown_at n within) ∙ sym e ∙ reduced_shown_at m less) in
      omega (arith, before, place_at counts n within, place_at counts m less)

  -- ---- first strategies so far

  wider : (numbers : List ℕ) (i : ℕ) → AllByRecursion (λ n. n < i) numbers
      → AllByRecursion (λ n. n < i + 1) numbers
  wider numbers i =
      all_weaker (λ n. n < i) (λ n. n < i + 1) (λ n before. omega (arith, before)) numbers

  abbrev images : List (List (Option ℕ))
  images = map (reduced g player) all

  image_at : (n : ℕ) → n < length all → get_or images n [] ≡ reduced g player (numbered g player n)
  image_at n less = get_or-map (reduced g player) all n [] [] less

  pub first_left : (numbers : List ℕ) (i : ℕ) → i < length all → AreFoundTo g player numbers i
      → IsRepeated i → AreFoundTo g player numbers (i + 1)
  first_left numbers i less h again =
      let early : again.0 < length all = omega (arith, again.1, less) in
      let left = used_again (pointwise same_choice) choices_equality images i []
      (omega (arith, less, length-map all (reduced g player))) again.0 again.1
      (image_at again.0 early ∙ again.2 ∙ sym (image_at i less)) in
      grind (arith, left, take-map, wider)

  pub first_kept : (numbers next : List ℕ) (i : ℕ) → i < length all → AreFoundTo g player numbers i
      → IsFirst g player i → next ≡ numbers ++ i ∷ [] → AreFoundTo g player next (i + 1)
  first_kept numbers next i less h first is =
      let new = used_first (pointwise same_choice) choices_equality images i []
      (omega (arith, less, length-map all (reduced g player))) (λ m early same.
      let before : m < length all = omega (arith, early, less) in
      let upto = not_repeated i m less before first
      (sym (image_at m before) ∙ same ∙ image_at i less) in omega (arith, upto, early)) in
      let kept = simp take-map at new in
      grind (arith, kept, map-append, image_at, all_both, wider)

  -- strategies that reduce like earlier ones are left out
  pub passed_by : (numbers : List ℕ) (i m : ℕ) → AreFoundTo g player numbers i → i + m ≤ length all
      → ((n : ℕ) → i ≤ n → n < i + m → IsRepeated n) → AreFoundTo g player numbers (i + m)
  passed_by numbers i zero h within again = grind arith
  passed_by numbers i (suc m) h within again =
      let next : i + m + 1 ≡ i + suc m = omega arith in
      rw next at (first_left numbers (i + m) (omega (arith, within))
      (passed_by numbers i m h (omega (arith, within))
      (λ n from to. again n from (omega (arith, to))))
      (again (i + m) (omega arith) (omega arith)))

-- ---- numbers of strategies

pub are_below : (g : Game) (players : List ℕ) (firsts : List (List ℕ))
    → AllZip (AreFirstsOf g) firsts players
    → AreBelow (map (λ player. length (strategies g player)) players) firsts
are_below g (player ∷ players) (own ∷ firsts) h = (h.0.1, are_below g players firsts h.1)
are_below g [] [] h = tt
are_below g players firsts h = grind arith

-- there are as many as reduced strategies
counted_of : (g : Game) (players : List ℕ) (firsts : List (List ℕ))
    → AllZip (AreFirstsOf g) firsts players
    → map length firsts ≡ map (λ player. length (reduced_strategies g player)) players
counted_of g (player ∷ players) (own ∷ firsts) h =
    grind (arith, length-map, counted_of g players firsts h.1)
counted_of g [] [] h = refl
counted_of g players firsts h = grind arith

fewer_of : (g : Game) (players : List ℕ)
    → product (map (λ player. length (reduced_strategies g player)) players)
    ≤ product (map (λ player. length (strategies g player)) players)
fewer_of g [] = omega arith
fewer_of g (player ∷ players) =
    mul-le-mul (grind (arith, fewer_uses, length-map)) (fewer_of g players)

-- no more profiles than those of all strategies
pub fewer_profiles : (g : Game) → length (reduced_profiles g) ≤ length (full_profiles g)
fewer_profiles g = grind (arith, fewer_of, length-profiles, strategy_counts)

-- ---- what profiles reduce to

reduces : (g : Game) (players : List ℕ) (firsts : List (List ℕ)) (profile : List ℕ)
    → AllZip (AreFirstsOf g) firsts players → IsProfile (map length firsts) profile
    → map (λ p. reduced g p.0 p.1)
    (zip players (map (λ p. strategy_at (strategies g p.0) p.1)
    (zip players (full_at firsts profile))))
    ≡ map (λ p. strategy_at (reduced_strategies g p.0) p.1) (zip players profile)
reduces g (player ∷ players) (own ∷ firsts) (s ∷ profile) h k =
    let all = strategies g player in
    let number = get_or own (s - 1) 0 in
    let within : s - 1 < length own = omega (arith, k.0.0, k.0.1) in
    let first =
    ap (reduced g player)
    (ap (strategy_at all) (add-one number) ∙ unwrap_or-slice_get all number [])
    ∙ sym (get_or-map (λ number. reduced g player (get_or all number [])) own (s - 1) 0 [] within)
    ∙ ap (λ (rs : List (List (Option ℕ))). get_or rs (s - 1) []) h.0.0
    ∙ sym (strategy_before (reduced_strategies g player) s k.0.0) in
    λ i. first i ∷ reduces g players firsts profile h.1 k.1 i
reduces g players firsts profile h k = grind arith

-- ---- the profiles of first strategies

-- the full profile reduces to this one
record Reduces (g : Game) (full profile : List ℕ) : Type 0 where
  there : Contains (full_profiles g) full
  is : reduced_by g full ≡ reduced_at g profile

-- these full profiles, in place of those that they reduce to
paid_over : (g : Game) (fulls ps : List (List ℕ)) (rows : List (List Ratio))
    → AllZip (Reduces g) fulls ps → AllZip (ArePayoffsAt g) fulls rows → AllZip (IsPaidAt g) ps rows
paid_over g (full ∷ fulls) (profile ∷ ps) (row ∷ rows) h k =
    grind (arith, paid_over g fulls ps rows h.1 k.1)
paid_over g fulls ps rows h k = grind arith

zip_turned : {A B C : Type 0} (P : A → Type 0) (R : A → B → Type 0) (S : C → A → Type 0)
    (f : B → C) → ((x : A) (y : B) → P x → R x y → S (f y) x) → (xs : List A) (ys : List B)
    → AllByRecursion P xs → AllZip R xs ys → AllZip S (map f ys) xs
zip_turned P R S f turned (x ∷ xs) (y ∷ ys) p h =
    (turned x y p.0 h.0, zip_turned P R S f turned xs ys p.1 h.1)
zip_turned P R S f turned xs ys p h = grind arith

-- the numbers are those of the profiles of first strategies
pub record AreTheirs (g : Game) (firsts : List (List ℕ)) (numbers : List ℕ) : Type 0 where
  pub game : IsGame g
  pub few : length (full_profiles g) ≤ profile_limit
  pub are : AreFirsts g firsts
  pub picked : ArePicked (strategy_counts g) firsts numbers

module _ (g : Game) (firsts : List (List ℕ)) (numbers : List ℕ)
    (theirs : AreTheirs g firsts numbers) where
  each_reduces : (profile : List ℕ) (number : ℕ) → IsProfile (map length firsts) profile
      → IsPicked (strategy_counts g) firsts profile number
      → Reduces g (get_or (full_profiles g) number []) profile
  each_reduces profile number valid one = search (rules, length-profiles, get_or_default, reduces)

  -- what is so of each full profile and what it reduces to
  all_so : (S : List ℕ → List ℕ → Type 0)
      → ((full profile : List ℕ) → Reduces g full profile → S full profile)
      → AllZip S (numbered_profiles g numbers) (reduced_profiles g)
  all_so S so = grind (arith, counted_of, zip_turned, each_reduces, are_profiles)

  all_reduce : AllZip (Reduces g) (numbered_profiles g numbers) (reduced_profiles g)
  all_reduce = all_so (Reduces g) (λ full profile h. h)

  pub their_numbers : AreProfileNumbers g numbers
  their_numbers = grind (arith, all_right, strategy_counts, length-profiles)

  pub few_numbers : length numbers ≤ profile_limit
  few_numbers = grind (arith, AllZip-long, all_reduce, length-map, fewer_profiles)

  pub reduced_rows : (payoffs : List Ratio)
      → AreRowsAt (ArePayoffsAt g) (numbered_profiles g numbers) payoffs
      → AreRowsAt (IsPaidAt g) (reduced_profiles g) payoffs
  reduced_rows payoffs h = grind (arith, paid_over, all_reduce)

  their_values : AllZip (λ full profile. HasValues g full ↔ HasReducedValues g profile)
      (numbered_profiles g numbers) (reduced_profiles g)
  their_values = all_so (λ full profile. HasValues g full ↔ HasReducedValues g profile)
      (grind (arith, same_values))

  pub reduced_values : AllByRecursion (HasValues g) (numbered_profiles g numbers)
      → AllByRecursion (HasReducedValues g) (reduced_profiles g)
  reduced_values = search (rules, all_alike, their_values)

  pub reduced_overflow : (position : ℕ)
      → IsFirstWithout (HasValues g) (numbered_profiles g numbers) position
      → ReducedOverflowsAt g position
  reduced_overflow position = search (rules, first_alike, their_values)

-- ---- the form

pub reduced_made : (g : Game) (t : Table) → IsFormWith (reduced_labels g) (IsPaidAt g) g t
    → IsReducedForm g t
reduced_made g t form =
    let payoffs = all_weaker (λ (e : Entry). IsPaidAt g e.profile e.payoffs)
    (λ (e : Entry). AreReducedPayoffsAt g e.profile e.payoffs)
    (λ e paid full there is. same_row g paid.full full (paid.reduces ∙ sym is) e.payoffs paid.paid)
    t.entries form.payoffs in
    grind (arith, payoffs)

pub ruleset number_steps = (
  are_below,
  length-map,
  AllZip-long,
  product_positive,
  strategies_positive,
  length-profiles,
  their_numbers,
  few_numbers,
  reduced_rows,
  reduced_values,
  IfOk-weaker,
  on_ok_weaker,
)

pub ruleset first_steps = (all_counted, as_many_players)
