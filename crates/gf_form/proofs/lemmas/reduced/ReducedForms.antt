-- The reduced form of a game: some full profile reduces to each of its profiles, and each full
-- profile reduces to one; it is a table. Each reduced strategy is there once, with a label of its
-- own, and so is each profile.
use Rattle.gf_form.proofs.Common
use Common.{AreReducedPayoffsAt, first_uses_distinct, reduced_strategies, decimal_injective, Option}
use Common.{reduced_profiles, get_or_default, reduced_labels, AllByRecursion, every_profile, length}
use Common.{IsReducedForm, PaysFractions, full_profiles, strategies_at, reduced_label, mapped_from}
use Common.{if◌then◌else◌, action_counts, same_choice, strategy_at, player_keys, AreDistinct, subst}
use Common.{is_relevant, length-map, reduced_at, reduced_by, choices_by, players_of, ℕ}
use Common.{strategies, pointwise, IsProfile, map_twice, choice_at, Contains, was_used}
use Common.{map_same, contains, Decides, is_used, has_map, reduced, IsTable, get_or, arith}
use Common.{IsGame, SetKey, IfSome, Table, List, None, refl, Game, Some, drop, ◌≡◌, ◌≤◌, ◌∷◌}
use Common.{map, sym, ◌+◌, ◌∙◌, ◌↔◌, zip, Has, has, ◌<◌, ◌-◌, suc, ◌^◌, [], ap}
use Rattle.std.proofs.lemmas.Slice.Eq.{slice_eq-Decides}
use Rattle.gf_form.proofs.lemmas.strategies.Chosen.{strategy_before, strategy_there, every_choice}
use Rattle.gf_form.proofs.lemmas.strategies.Chosen.{all_mapped, there}
use Rattle.gf_form.proofs.lemmas.form.Forms.{one_strategic_form, one_form_by}
use Rattle.gf_form.proofs.lemmas.form.Forms.{form_profiles, rows_of_form, some_form_by, table_by}
use Rattle.gf_form.proofs.lemmas.form.Forms.{one_row, as_many, of_row, row_of}
use Rattle.gf_form.proofs.lemmas.reduced.Reducing.{same_row}
use Rattle.gf_form.proofs.lemmas.strategies.CountedActions.{some_strategy}
use Rattle.gf_form.proofs.lemmas.strategies.StrategiesByNumber.{undashed_number, small_choice}
use Rattle.gf_form.proofs.lemmas.strategies.StrategiesByNumber.{digits_of, AreSmall, same_joined}

-- ---- positions

-- what stands in a list has a position
position_in : {A : Type 0} (xs : List (List A)) (x : List A) → Contains xs x
    → (s : ℕ) × (1 ≤ s) × (s ≤ length xs) × (strategy_at xs s ≡ x)
position_in xs x at =
    (at.0 + 1, omega arith, omega (arith, at.1), grind (arith, strategy_before, get_or_default))

-- ---- a strategy reduces to one, and each is reduced to

pub choices_equality : (a b : List (Option ℕ)) → Decides (pointwise same_choice a b) (a ≡ b)
choices_equality a b = grind (arith, slice_eq-Decides)

module _ (g : Game) where
  -- a strategy at one position and a reduced strategy at the other, to which it reduces
  abbrev ReducesTo : ℕ → ℕ → ℕ → Type 0
  ReducesTo player k s = reduced g player (strategy_at (strategies g player) k)
      ≡ strategy_at (reduced_strategies g player) s

  -- a reduced strategy is what a strategy reduces to
  pub each_comes : (player : ℕ) (strategy : List (Option ℕ))
      → Contains (reduced_strategies g player) strategy
      ↔ ((full : List ℕ) × Contains (strategies g player) full × (reduced g player full ≡ strategy))
  each_comes player strategy = (
    λ h.
        let there = has (reduced_strategies g player) strategy h in
        grind (arith, contains, mapped_from, was_used),
    λ from. contains (reduced_strategies g player) strategy (is_used (pointwise same_choice)
        choices_equality (map (reduced g player) (strategies g player)) strategy
        (rw from.2 at (has_map (reduced g player) (strategies g player) from.0
        (has (strategies g player) from.0 from.1)))),
  )

  full_of : (player s : ℕ) → 1 ≤ s → s ≤ length (reduced_strategies g player)
      → (k : ℕ) × (1 ≤ k) × (k ≤ length (strategies g player)) × ReducesTo player k s
  full_of player s above within =
      let from = (each_comes player (strategy_at (reduced_strategies g player) s)).0
      (strategy_there (reduced_strategies g player) s above within) in
      let k = position_in (strategies g player) from.0 from.1 in
      (k.0, k.1, k.2, ap (reduced g player) k.3 ∙ from.2)

  reduced_of : (player k : ℕ) → 1 ≤ k → k ≤ length (strategies g player)
      → (s : ℕ) × (1 ≤ s) × (s ≤ length (reduced_strategies g player)) × ReducesTo player k s
  reduced_of player k above within =
      let strategy = strategy_at (strategies g player) k in
      let s = position_in (reduced_strategies g player) (reduced g player strategy)
      ((each_comes player (reduced g player strategy)).1
      (strategy, strategy_there (strategies g player) k above within, refl)) in
      (s.0, s.1, s.2, sym s.3)

  -- ---- and so for profiles

  abbrev full_counts : List ℕ → List ℕ
  full_counts players = map (λ player. length (strategies g player)) players

  abbrev reduced_counts : List ℕ → List ℕ
  reduced_counts players = map (λ player. length (reduced_strategies g player)) players

  abbrev AllReduce : List ℕ → List ℕ → List ℕ → Type 0
  AllReduce players full profile =
      map (λ p. reduced g p.0 p.1)
      (zip players (map (λ p. strategy_at (strategies g p.0) p.1) (zip players full)))
      ≡ map (λ p. strategy_at (reduced_strategies g p.0) p.1) (zip players profile)

  full_of_all : (players profile : List ℕ) → IsProfile (reduced_counts players) profile
      → (full : List ℕ) × IsProfile (full_counts players) full × AllReduce players full profile
  full_of_all (player ∷ players) (s ∷ profile) h =
      let k = full_of player s h.0.0 h.0.1 in
      let others = full_of_all players profile h.1 in
      (k.0 ∷ others.0, ((k.1, k.2), others.1), λ i. k.3 i ∷ others.2 i)
  full_of_all players profile h = grind arith

  reduced_of_all : (players full : List ℕ) → IsProfile (full_counts players) full
      → (profile : List ℕ) × IsProfile (reduced_counts players) profile
      × AllReduce players full profile
  reduced_of_all (player ∷ players) (k ∷ full) h =
      let s = reduced_of player k h.0.0 h.0.1 in
      let others = reduced_of_all players full h.1 in
      (s.0 ∷ others.0, ((s.1, s.2), others.1), λ i. s.3 i ∷ others.2 i)
  reduced_of_all players full h = grind arith

  pub reduced_form_profiles : form_profiles (reduced_labels g) g ≡ reduced_profiles g
  reduced_form_profiles = grind (arith, length-map, map_same, map_twice)

  -- a full profile that reduces to a profile of the reduced form
  pub some_full : (profile : List ℕ) → Contains (reduced_profiles g) profile → (full : List ℕ)
      × Contains (full_profiles g) full × (reduced_by g full ≡ reduced_at g profile)
  some_full profile i =
      grind (
        arith,
        every_profile,
        full_of_all (players_of g) profile ((every_profile (reduced_counts (players_of g)) profile).0 i),
      )

  -- and the one to which a full profile reduces
  pub some_reduced : (full : List ℕ) → Contains (full_profiles g) full → (profile : List ℕ)
      × Contains (reduced_profiles g) profile × (reduced_by g full ≡ reduced_at g profile)
  some_reduced full i =
      grind (
        arith,
        every_profile,
        reduced_of_all (players_of g) full ((every_profile (full_counts (players_of g)) full).0 i),
      )

  -- ---- the form

  pub one_reduced_form : (t u : Table) → IsReducedForm g t → IsReducedForm g u → t ≡ u
  one_reduced_form =
      one_form_by (reduced_labels g) (AreReducedPayoffsAt g) g (reduced_profiles g)
      reduced_form_profiles (λ profile i a b h k. grind (arith, one_row, some_full profile i))

  pub reduced_form_exists : ((t : Table) × IsReducedForm g t) ↔ PaysFractions g
  reduced_form_exists = (
    λ form full i.
        let one = some_reduced full i in
        let row =
        rows_of_form (reduced_labels g) (AreReducedPayoffsAt g) g (reduced_profiles g)
        reduced_form_profiles form.0 form.1 one.0 one.1 in
        of_row g (choices_by g (strategies_at g full)) row.0 (players_of g) (row.1 full i one.2),
    λ pays. some_form_by (reduced_labels g) (AreReducedPayoffsAt g) g (reduced_profiles g)
        reduced_form_profiles (λ profile i.
        let one = some_full profile i in
        let row =
        row_of g (choices_by g (strategies_at g one.0)) (players_of g) (pays one.0 one.1) in
        (row.0, λ full j e. same_row g one.0 full (one.2 ∙ sym e) row.0 row.1)),
  )

pub some_reduced_label : (g : Game) → IsGame g → (player : ℕ) → 0 < length (reduced_labels g player)
some_reduced_label g game player =
    grind (arith, length-map, reduced_of g player 1 (omega arith) (some_strategy g game player))

pub reduced_is_table : (g : Game) (t : Table) → IsGame g → IsReducedForm g t → IsTable t
reduced_is_table g t game =
    table_by (reduced_labels g) (AreReducedPayoffsAt g) g (reduced_profiles g)
    (reduced_form_profiles g) (some_reduced_label g game) (λ p row i h.
    let one = some_full g p i in as_many _ row (players_of g) (h one.0 one.1 one.2)) t

pub ruleset at_most_one_form = (one_strategic_form, one_reduced_form)

-- ---- places

-- if nothing occurs twice, what is at two places is at one place
one_place : {A : Type 0} (xs : List A) (i j : ℕ) (d : A) → AreDistinct xs → i < length xs
    → j < length xs → get_or xs i d ≡ get_or xs j d → i ≡ j
one_place (x ∷ xs) (suc i) (suc j) d h hi hj e =
    ap suc (one_place xs i j d h.1 (omega (arith, hi)) (omega (arith, hj)) e)
one_place xs i j d h hi hj e = grind (arith, Has, there)

-- ---- choices

abbrev IsSmallChoice : Option ℕ → Type 0
IsSmallChoice choice = IfSome choice (λ n. n < 2 ^ 64)

small_at : (keys : List SetKey) (s : List ℕ) → AreSmall s → (key : SetKey)
    → choice_at keys s key < 2 ^ 64
small_at (k ∷ keys) (a ∷ s) small key = grind (arith, small_at keys s small.1 key)
small_at keys s small key = omega arith

-- ---- reduced strategies

module _ (g : Game) (player : ℕ) where
  abbrev all : List (List (Option ℕ))
  all = reduced_strategies g player

  pub each_once : (i j : ℕ) → i < length all → j < length all → get_or all i [] ≡ get_or all j []
      → i ≡ j
  each_once i j hi hj e = one_place all i j []
      (first_uses_distinct (pointwise same_choice) choices_equality
      (map (reduced g player) (strategies g player))) hi hj e

  -- ---- labels

  -- a choice for each set, and none that is large
  small_strategy : AreSmall (action_counts g player) → (strategy : List (Option ℕ))
      → Has all strategy → AllByRecursion IsSmallChoice strategy
      × (length strategy ≡ length (player_keys g player))
  small_strategy small strategy h =
      let from = (each_comes g player strategy).0 (contains all strategy h) in
      let keys = player_keys g player in
      let choice = choice_at keys from.0 in
      let few = small_choice (action_counts g player) from.0 small
      ((every_choice (action_counts g player) from.0).0 from.1) in
      subst (λ (s : List (Option ℕ)). AllByRecursion IsSmallChoice s × (length s ≡ length keys))
      from.2 (
        all_mapped IsSmallChoice _ keys (λ key. grind (arith, small_at keys from.0 few.0)),
        length-map keys (λ key. if is_relevant g choice key then Some (choice key) else None),
      )

  pub labels_differ : (i j : ℕ) → AreSmall (action_counts g player) → i < length all → j
      < length all → reduced_label (get_or all i []) ≡ reduced_label (get_or all j []) → i ≡ j
  labels_differ i j small hi hj e =
      let s = get_or all i [] in
      let t = get_or all j [] in
      let hs = small_strategy small s (there all i [] hi) in
      let ht = small_strategy small t (there all j [] hj) in
      grind (arith, each_once, decimal_injective, digits_of, same_joined, undashed_number)

-- ---- profiles

module _ (g : Game) where
  one_profile_of : (players p q : List ℕ) → IsProfile (reduced_counts g players) p
      → IsProfile (reduced_counts g players) q
      → map (λ r. strategy_at (reduced_strategies g r.0) r.1) (zip players p)
      ≡ map (λ r. strategy_at (reduced_strategies g r.0) r.1) (zip players q) → p ≡ q
  one_profile_of (player ∷ players) (s ∷ p) (t ∷ q) hp hq e =
      let once = each_once g player (s - 1) (t - 1) in
      grind (arith, once, strategy_before, one_profile_of players p q hp.1 hq.1 (ap (drop 1) e))
  one_profile_of [] [] [] hp hq e = refl
  one_profile_of players p q hp hq e = grind arith

  pub one_profile : (p q : List ℕ) → Contains (reduced_profiles g) p
      → Contains (reduced_profiles g) q → reduced_at g p ≡ reduced_at g q → p ≡ q
  one_profile p q hp hq e = one_profile_of (players_of g) p q
      ((every_profile (reduced_counts g (players_of g)) p).0 hp)
      ((every_profile (reduced_counts g (players_of g)) q).0 hq) e

pub ruleset each_profile = (some_full, some_reduced, one_profile)
