-- The profile with a number, and the profiles of some strategies of each player with their numbers
-- among all profiles.
use Rattle.gf_form.proofs.Common
use Common.{get_or-numbers_from, length-numbers_from, unwrap_or-slice_get, AreProfileNumbers, arith}
use Common.{div-lt_iff_lt-mul, numbered_profiles, length-profiles, AllByRecursion, action_counts, ℕ}
use Common.{full_profiles, numbers_from, all_choices, mod-add-div, strategy_at, all_weaker, add-one}
use Common.{get_or-map, length-map, strategies, AreCounts, ArePicked, positions, AreBelow, IsPicked}
use Common.{flat_map, mul_comm, profiles, product, AllZip, Counts, get_or, length, Game, List, drop}
use Common.{refl, zero, map, suc, sym, zip, ◌%◌, ◌*◌, ◌+◌, ◌/◌, ◌<◌, ◌∙◌, ◌∷◌, ◌≡◌, [], ap}
use Rattle.gf_form.proofs.lemmas.strategies.Chosen.{length-all_choices, zip_by_places, all_in_turn}
use Rattle.gf_form.proofs.lemmas.strategies.Chosen.{zip_flat, in_turn, row_at}
use Rattle.gf_form.proofs.lemmas.strategies.StrategiesByNumber.{positive_parts, all_at}

-- ---- the profile with a number

profile_at : (count : ℕ) (counts : List ℕ) (number rest : ℕ) → number < count
    → rest < product counts → get_or (profiles (count ∷ counts)) (number + count * rest) []
    ≡ (number + 1) ∷ get_or (profiles counts) rest []
profile_at count counts number rest less below =
    let others = get_or (profiles counts) rest [] in
    let row = row_at (λ (others : List ℕ). map (λ s. s ∷ others) (positions count)) count (λ others.
    length-map (positions count) (λ s. s ∷ others) ∙ length-numbers_from 1 count) (profiles counts)
    rest number [] [] (omega (arith, below, length-profiles counts)) less in
    let first = get_or-map (λ (s : ℕ). s ∷ others) (positions count) number 0 [] (omega (
      arith,
      less,
      length-numbers_from 1 count,
    )) in
    let at : number + count * rest ≡ rest * count + number = omega arith in
    grind (arith, get_or-numbers_from)

-- ---- their numbers

sum_below : (count rest size number : ℕ) → rest < size → number < count
    → number + count * rest < count * size
sum_below count rest size number less below = grind arith

-- with each of their strategies
more_picked : (count : ℕ) (counts own : List ℕ) (picked : List (List ℕ)) (others : List ℕ)
    (rest : ℕ) → AllByRecursion (λ number. number < count) own → IsPicked counts picked others rest
    → AllZip (IsPicked (count ∷ counts) (own ∷ picked))
    (map (λ s. s ∷ others) (positions (length own))) (map (λ number. number + count * rest) own)
more_picked count counts own picked others rest below one =
    zip_by_places (IsPicked (count ∷ counts) (own ∷ picked)) [] 0 _ _
    (grind (arith, length-map, length-numbers_from)) (λ k less.
    let inside : k < length own = grind (arith, length-map, length-numbers_from) in
    let here = all_at (λ number. number < count) own k 0 below inside in
    let there : k < length (positions (length own)) = grind (arith, length-numbers_from) in
    rw (
      get_or-map (λ (s : ℕ). s ∷ others) (positions (length own)) k 0 [] there,
      get_or-numbers_from 1 (length own) k 0 inside,
      get_or-map (λ (number : ℕ). number + count * rest) own k 0 0 inside,
    ) ((grind (arith, sum_below, profile_at))))

-- ---- one player after another

pub next_picked : (counts : List ℕ) (picked : List (List ℕ)) (i : ℕ) (others : List ℕ)
    → AreBelow counts picked → i < length counts
    → ArePicked (drop (suc i) counts) (drop (suc i) picked) others
    → ArePicked (drop i counts) (drop i picked)
    (flat_map (λ rest. map (λ number. number + get_or counts i 0 * rest) (get_or picked i []))
    others)
next_picked (count ∷ counts) (own ∷ picked) (suc i) others h less are =
    next_picked counts picked i others h.1 (omega (arith, less)) are
next_picked (count ∷ counts) (own ∷ picked) zero others h less are =
    zip_flat (IsPicked counts picked) (IsPicked (count ∷ counts) (own ∷ picked))
    (λ profile. map (λ s. s ∷ profile) (positions (length own)))
    (λ rest. map (λ number. number + count * rest) own)
    (λ profile rest one. more_picked count counts own picked profile rest h.0 one)
    (profiles (map length picked)) others are
next_picked counts picked i others h less are = absurd (grind arith)

pub sums_fit : (count rest size most : ℕ) (own : List ℕ) → rest < size → count * size < most
    → AllByRecursion (λ number. number < count) own
    → AllByRecursion (λ number. number + count * rest < most) own
sums_fit count rest size most own less fits h =
    all_weaker (λ number. number < count) (λ number. number + count * rest < most)
    (λ number below. omega (arith, sum_below count rest size number less below, fits)) own h

-- the profile at a place
pub numbered_at : (g : Game) (numbers : List ℕ) (i : ℕ)
    → i < length numbers → (i < length (numbered_profiles g numbers))
    × (get_or (numbered_profiles g numbers) i [] ≡ get_or (full_profiles g) (get_or numbers i 0) [])
numbered_at g numbers i less = grind (arith, less, length-map, get_or-map)

pub ruleset sum_steps = (sums_fit, all_at)

-- those of all profiles, by what is counted of a game
module _ (g : Game) (counts : Counts) (numbers given : List ℕ) (are : AreCounts g counts)
    (same : given ≡ numbers) (is : numbers ≡ numbers_from 0 counts.profiles.count) where
  pub counted_numbers : AreProfileNumbers g given
  counted_numbers =
      rw (same, is, are.profiles)
      (all_in_turn _ 0 (length (full_profiles g)) (λ k less. omega (arith, less)))

  pub all_counted : numbered_profiles g given ≡ full_profiles g
  all_counted =
      rw (same, is, are.profiles) (in_turn (λ number. get_or (full_profiles g) number []) 0
      (full_profiles g) [] (λ i _. grind arith))

pub ruleset full_steps = (counted_numbers, all_counted, length-numbers_from)

-- ---- the strategies of one player after another

-- the strategies of the profile with this number, if players have this many actions at their sets
abbrev pub numbered : List (List ℕ) → ℕ → List (List ℕ)
numbered [] number = []
numbered (own ∷ others) number =
    get_or (all_choices own) (number % product own) [] ∷ numbered others (number / product own)

pub numbered_strategies : (g : Game) (players : List ℕ) (number : ℕ)
    → number < product (map (λ player. length (strategies g player)) players)
    → numbered (map (action_counts g) players) number
    ≡ map (λ p. strategy_at (strategies g p.0) p.1) (zip players
    (get_or (profiles (map (λ player. length (strategies g player)) players)) number []))
numbered_strategies g [] number less = refl
numbered_strategies g (player ∷ players) number less =
    let own = action_counts g player in
    let all = strategies g player in
    let counts = map (λ player. length (strategies g player)) players in
    let is : product own ≡ length all = sym (length-all_choices own) in
    let parts = positive_parts (length all) (product counts) number less in
    let later = (div-lt_iff_lt-mul parts.0).1 (rw mul_comm at less) in
    let others = numbered_strategies g players (number / length all) later in
    grind (arith, add-one, unwrap_or-slice_get, mul_comm, mod-add-div, profile_at)
