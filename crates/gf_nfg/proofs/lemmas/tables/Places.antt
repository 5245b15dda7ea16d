-- The places of profiles.
use Rattle.gf_nfg.proofs.Common
use Common.{mul-le-mul_right, AllByRecursion, profile_limit, get_or_from_slice_get, product}
use Common.{all_images, table_with, length-map, get_or-map, slice_get, zero, drop_more, IsProfile}
use Common.{mul_comm, profiles, IsPlaced, IsTable, PaysAt, length, get_or, IsHeld, own_of, arith}
use Common.{Ratio, place, Table, Entry, Frame, List, drop, Some, rows}
use Common.{◌≡◌, suc, ◌+◌, ◌-◌, ◌*◌, ◌<◌, ◌≤◌, ◌∷◌, map, ◌⊎◌, [], ℕ}
use Rattle.std.proofs.lemmas.List.Elements.{AllZip-get_or}
use Rattle.gf_nfg.proofs.lemmas.tables.Profiles.{every_profile, length-profiles}
use Rattle.gf_nfg.proofs.lemmas.tables.Profiles.{place_at as stands_at}
use Rattle.gf_nfg.proofs.lemmas.tables.Rows.{entries_counted}

-- a profile stands at its place alone
place_found : (counts profile : List ℕ) (k i : ℕ) → IsPlaced counts profile k
    → i < length (profiles counts) → get_or (profiles counts) i profile ≡ profile → i ≡ k
place_found counts profile k i h less same = grind (arith, stands_at)

pub place_below : (counts profile : List ℕ) (k : ℕ) → IsPlaced counts profile k
    → k < product counts
place_below counts profile k h = grind (arith, every_profile, place_found, length-profiles)

-- ---- the code's steps, from the last player to the first

pub product_drop : (counts : List ℕ) (at : ℕ) → AllByRecursion (λ n. 0 < n) counts
    → product (drop at counts) ≤ product counts
product_drop counts zero h = omega arith
product_drop [] (suc at) h = omega arith
product_drop (n ∷ counts) (suc at) h =
    grind (arith, product_drop counts, mul-le-mul_right (product counts) h.0)

-- what is known of a player whose strategy is looked at
pub record AtPlayer (frame : Frame) (profile : List ℕ) (at place count : ℕ) : Type 0 where
  pub one_list_each : length frame.strategies ≡ length frame.players
  pub some_strategy : AllByRecursion (λ own. 0 < length own) frame.strategies
  pub within : product (map length frame.strategies) ≤ profile_limit
  pub one_number_each : length profile ≡ length frame.players
  pub player : at < length frame.players
  pub found : IsPlaced (drop (at + 1) (map length frame.strategies)) (drop (at + 1) profile) place
  pub count_is : count ≡ length (own_of frame at)

-- the player before this place
pub player_before : {frame : Frame} {profile : List ℕ} {at place count : ℕ}
    → length frame.strategies ≡ length frame.players
    → AllByRecursion (λ own. 0 < length own) frame.strategies
    → product (map length frame.strategies) ≤ profile_limit
    → length profile ≡ length frame.players → 0 < at → at ≤ length frame.players
    → IsPlaced (drop at (map length frame.strategies)) (drop at profile) place
    → count ≡ length (own_of frame (at - 1)) → AtPlayer frame profile (at - 1) place count
player_before {frame} {profile} {at} one some few full above within found is = grind arith

at_count : {frame : Frame} {profile : List ℕ} {at place count : ℕ}
    → AtPlayer frame profile at place count → (at < length (map length frame.strategies))
    × (count ≡ get_or (map length frame.strategies) at 0)
at_count {frame} {profile} {at} {place} {count} a = grind (arith, length-map, get_or-map)

pub strategy_out : {frame : Frame} {profile : List ℕ} {at place count : ℕ}
    → AtPlayer frame profile at place count
    → (get_or profile at 0 ≡ 0) ⊎ (¬ (get_or profile at 0 ≡ 0) × (count < get_or profile at 0))
    → ¬ (IsProfile (map length frame.strategies) profile)
strategy_out {frame} {profile} {at} a out = λ h. grind (arith, AllZip-get_or, at_count a)

pub strategy_in : {frame : Frame} {profile : List ℕ} {at place count : ℕ}
    → AtPlayer frame profile at place count → 0 < get_or profile at 0 → get_or profile at 0 ≤ count
    → IsPlaced (drop at (map length frame.strategies)) (drop at profile)
    (place * count + (get_or profile at 0 - 1))
strategy_in {frame} {profile} {at} {place} {count} a above within =
    grind (arith, at_count a, drop_more, mul_comm)

pub strategy_fits : {frame : Frame} {profile : List ℕ} {at place count : ℕ}
    → AtPlayer frame profile at place count → 0 < get_or profile at 0 → get_or profile at 0 ≤ count
    → place * count + (get_or profile at 0 - 1) < profile_limit
strategy_fits {frame} {profile} {at} a above within =
    let below = place_below _ _ _ (strategy_in a above within) in
    let some = all_images (λ n. 0 < n) length frame.strategies a.some_strategy in
    grind (arith, product_drop (map length frame.strategies) at)

-- ---- the payoffs of a table at a profile

-- its entry at the place of a profile is the one with this profile
pays_at_place : (t : Table) (profile : List ℕ) (k : ℕ) (row : List Ratio) → IsTable t
    → IsPlaced (map length t.strategies) profile k → slice_get (rows t) k ≡ Some row
    → PaysAt t profile row
pays_at_place t profile k row h placed there =
    let e : Entry = record { profile = profile; payoffs = row } in
    let less : k < length t.entries =
    omega (arith, place_below (map length t.strategies) profile k placed, entries_counted t h) in
    let paid = get_or-map (λ (x : Entry). x.payoffs) t.entries k e row less in
    grind (arith, every_profile, place_found, get_or-map, get_or_from_slice_get)

pub pays_there : (frame : Frame) (rs : List (List Ratio)) (profile : List ℕ) (k : ℕ)
    (row : List Ratio) → IsHeld frame rs → IsPlaced (map length frame.strategies) profile k
    → slice_get rs k ≡ Some row → PaysAt (table_with frame rs) profile row
pays_there frame rs profile k row h placed there =
    grind (arith, pays_at_place (table_with frame rs) profile k row h.is_table placed, h.rows_are)

pub place_there : (frame : Frame) (rs : List (List Ratio)) (profile : List ℕ) (place : ℕ)
    → IsHeld frame rs → IsPlaced (map length frame.strategies) profile place → place < length rs
place_there frame rs profile place h found =
    grind (arith, entries_counted (table_with frame rs) h.is_table, length-map, place_below)

pub ruleset places_found =
    (length-map, place_below, player_before, strategy_in, strategy_fits)
