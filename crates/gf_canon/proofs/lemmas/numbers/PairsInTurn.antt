-- Pairs that are told one after another: one for each item of a list, or a list for each player.
use Rattle.gf_canon.proofs.Common
use Common.{flat_map-append, append_assoc, numbers_from, flat_map}
use Common.{IsSpellable, Renumbering, at_position, player_keys, NumberPair, append-nil, get_or-map}
use Common.{length-map, positions, set_pairs, take_all, SetKey, get_or, length, arith, Game, List}
use Common.{Some, refl, take, ◌++◌, map, ◌+◌, ◌<◌, ◌^◌, ◌∷◌, ◌≡◌, ◌≤◌, [], ℕ}
use Rattle.std.proofs.lemmas.List.{take_more}
use Rattle.std.proofs.lemmas.Option.{slice_get-get_or, slice_get-map}
use Rattle.gf_nfg.proofs.Offered.{numbers_joined}
use Rattle.gf_canon.proofs.lemmas.numbers.Canonical.{no_numbers}

-- ---- one for each number

-- f : the new number; xs, ys : the numbers in both games
module _ (f : ℕ → ℕ) (xs ys : List ℕ) (carried : ys ≡ map f xs) (before : ℕ)
    (within : before < length xs) where
  pub both_there : (at_position xs (before + 1) ≡ Some (get_or xs before 0))
      × (at_position ys (before + 1) ≡ Some (f (get_or xs before 0)))
  both_there = grind (arith, slice_get-get_or, slice_get-map)

  -- pair : what is told of each
  pub pair_more : (pair : ℕ → ℕ → NumberPair) (n m : ℕ) (told : List NumberPair)
      → Some n ≡ at_position xs (before + 1) → Some m ≡ at_position ys (before + 1)
      → (told ++ take before (map (λ k. pair k (f k)) xs)) ++ pair n m ∷ []
      ≡ told ++ take (before + 1) (map (λ k. pair k (f k)) xs)
  pair_more pair n m told here there =
      let both = both_there in
      let last = get_or-map (λ k. pair k (f k)) xs before 0 (pair n m) within in
      let long = length-map xs (λ k. pair k (f k)) in
      grind (arith, take_more (map (λ k. pair k (f k)) xs) before (pair n m), append_assoc)

pub pairs_done : (pair : ℕ → NumberPair) (xs : List ℕ) (before : ℕ) → length xs ≤ before
    → take before (map pair xs) ≡ map pair xs
pairs_done pair xs before past = take_all before (map pair xs) (omega (arith, length-map xs pair))

-- ---- one list for each player, chance first

module _ (f : ℕ → List NumberPair) where
  pub player_more : (before : ℕ) (start pairs more : List NumberPair)
      → pairs ≡ start ++ flat_map f (numbers_from 0 (before + 1)) → more ≡ pairs ++ f (before + 1)
      → more ≡ start ++ flat_map f (numbers_from 0 (before + 1 + 1))
  player_more before start pairs more now e =
      let joined = numbers_joined 0 (before + 1) 1 in
      grind (arith, append_assoc, flat_map-append, append-nil)

-- ---- a player past the last number has no sets

no_keys : (keys : List SetKey) → [] ≡ positions (length keys) → keys ≡ []
no_keys [] e = refl
no_keys (key ∷ keys) e = absurd cc

pub no_pairs : (r : Renumbering) (g : Game) (player : ℕ) (pairs : List NumberPair) → 2 ^ 32 ≤ player
    → IsSpellable g → pairs ≡ pairs ++ set_pairs r g player
no_pairs r g player pairs past can =
    cc (no_keys (player_keys g player) (no_numbers g player past can), append-nil pairs)
