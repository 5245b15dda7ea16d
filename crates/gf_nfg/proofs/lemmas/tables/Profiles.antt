-- Each choice of one strategy for each player is among the profiles once, and at its place.
use Rattle.gf_nfg.proofs.Common.{◌≡◌, ℕ, zero, suc, ◌+◌, ◌-◌, ◌*◌, ◌<◌, ◌≤◌, List, [], ◌∷◌, ◌++◌}
use Rattle.gf_nfg.proofs.Common.{length, map, drop, get_or, refl, ap, ◌∙◌, append_assoc, arith}
use Rattle.gf_nfg.proofs.Common.{length-append, ◌↔◌, AllByRecursion, Contains, flat_map, mul-suc}
use Rattle.gf_nfg.proofs.Common.{flat_map-append, length-map, map-append, get_or-map, all_both}
use Rattle.gf_nfg.proofs.Common.{numbers_from, positions, profiles, product, IsProfile, place}
use Rattle.std.proofs.lemmas.List.Elements.{All-contains, All-from_recursion}
use Rattle.gf_nfg.proofs.lemmas.tables.NumbersInTurn.{numbers_joined, IsIn, number_in, contains_in}
use Rattle.gf_nfg.proofs.lemmas.tables.NumbersInTurn.{length-numbers_from, get_or-numbers_from}

-- a profile for each strategy of the first player, with these of the others
abbrev firsts : ℕ → List ℕ → List (List ℕ)
firsts count others = map (λ s. s ∷ others) (positions count)

-- ---- places

places_first : (count : ℕ) (counts others : List ℕ) (k n s : ℕ) → place counts others ≡ k → 1 ≤ s
    → map (place (count ∷ counts)) (map (λ i. i ∷ others) (numbers_from s n))
    ≡ numbers_from (s - 1 + count * k) n
places_first count counts others k zero s e h = refl
places_first count counts others k (suc n) s e h =
    grind (arith, places_first count counts others k n (s + 1) e (omega arith))

places_all : (count : ℕ) (counts : List ℕ) (tails : List (List ℕ)) (k : ℕ)
    → map (place counts) tails ≡ numbers_from k (length tails)
    → map (place (count ∷ counts)) (flat_map (firsts count) tails)
    ≡ numbers_from (count * k) (count * length tails)
places_all count counts [] k e = grind arith
places_all count counts (others ∷ tails) k e =
    let start : 1 - 1 + count * k ≡ count * k = omega arith in
    let on : count * (k + 1) ≡ count * k + count = omega (arith, mul-suc count k) in
    let rest = places_all count counts tails (k + 1) (ap (drop 1) e) in
    grind (arith, map-append, numbers_joined, places_first)

length-firsts : (count : ℕ) (tails : List (List ℕ))
    → length (flat_map (firsts count) tails) ≡ count * length tails
length-firsts count [] = omega arith
length-firsts count (others ∷ tails) =
    let more = length-firsts count tails in
    grind (arith, length-map, length-numbers_from, length-append, mul-suc)

pub length-profiles : (counts : List ℕ) → length (profiles counts) ≡ product counts
length-profiles [] = refl
length-profiles (count ∷ counts) = grind (arith, length-firsts, length-profiles counts)

places_are : (counts : List ℕ)
    → map (place counts) (profiles counts) ≡ numbers_from 0 (length (profiles counts))
places_are [] = refl
places_are (count ∷ counts) =
    grind (arith, places_all count counts (profiles counts) 0 (places_are counts), length-firsts)

pub profiles_in_order : (counts : List ℕ)
    → map (place counts) (profiles counts) ≡ numbers_from 0 (product counts)
profiles_in_order counts = places_are counts ∙ ap (numbers_from 0) (length-profiles counts)

pub place_at : (counts : List ℕ) (i : ℕ) (d : List ℕ) → i < length (profiles counts)
    → place counts (get_or (profiles counts) i d) ≡ i
place_at counts i d h =
    grind (arith, get_or-numbers_from 0 (length (profiles counts)) i 0 h, places_are, get_or-map)

-- no profile stands twice
pub profiles_distinct : (counts : List ℕ) (i j : ℕ) (d : List ℕ) → i < length (profiles counts)
    → j < length (profiles counts) → get_or (profiles counts) i d ≡ get_or (profiles counts) j d
    → i ≡ j
profiles_distinct counts i j d hi hj e = cc (place_at counts i d hi, place_at counts j d hj)

-- ---- all choices

profile_in : (counts profile : List ℕ) → IsProfile counts profile → IsIn (profiles counts) profile
profile_in [] [] h = ([], [], refl)
profile_in (count ∷ counts) (s ∷ others) h =
    let r = profile_in counts others h.1 in
    let n = number_in 1 count s h.0.0 (omega (arith, h.0.1)) in
    let f = λ (i : ℕ). i ∷ others in
    let g = flat_map (firsts count) in
    let parts = flat_map-append (firsts count) r.0 (others ∷ r.1) in
    (g r.0 ++ map f n.0, map f n.1 ++ g r.1, grind (arith, map-append, append_assoc))
profile_in counts profile h = absurd (grind arith)

all_first : (count : ℕ) (counts others : List ℕ)
    → IsProfile counts others → (s n : ℕ) → 1 ≤ s → s + n ≤ count + 1
    → AllByRecursion (IsProfile (count ∷ counts)) (map (λ i. i ∷ others) (numbers_from s n))
all_first count counts others p s zero h k = tt
all_first count counts others p s (suc n) h k =
    (((h, omega arith), p), all_first count counts others p (s + 1) n (omega arith) (omega arith))

all_profiles : (count : ℕ) (counts : List ℕ) (tails : List (List ℕ))
    → AllByRecursion (IsProfile counts) tails
    → AllByRecursion (IsProfile (count ∷ counts)) (flat_map (firsts count) tails)
all_profiles count counts [] h = tt
all_profiles count counts (others ∷ tails) h =
    let first = all_first count counts others h.0 1 count (omega arith) (omega arith) in
    grind (arith, all_both, all_profiles count counts tails h.1)

pub are_profiles : (counts : List ℕ) → AllByRecursion (IsProfile counts) (profiles counts)
are_profiles [] = (tt, tt)
are_profiles (count ∷ counts) = all_profiles count counts (profiles counts) (are_profiles counts)

pub every_profile : (counts profile : List ℕ)
    → Contains (profiles counts) profile ↔ IsProfile counts profile
every_profile counts profile =
    grind (arith, All-contains, All-from_recursion, are_profiles, contains_in, profile_in)

pub ruleset profile_laws = (every_profile, profiles_in_order)
