-- The rows of a table.
use Rattle.gf_nfg.proofs.Common
use Common.{get_or_from_slice_get, AllByRecursion, mul-le-mul_left, mul-le-mul_right, IsWithinLimit}
use Common.{length-replicate, slice_get-get_or, profile_limit, slice_get-map, length-take, no_pay}
use Common.{length-drop, chosen_rows, AreNumbered, table_with, all_images, all_weaker, length-map}
use Common.{entries_of, kept_rows, slice_get, unwrap_or, profiles, AreFull, HasRows}
use Common.{vec_len, product, rows_of, length, get_or, row_of, IsTable, arith, Entry, Ratio, Table}
use Common.{mul-suc, all_at, whole, Frame, take, drop, rows, zero, List, Some, refl, suc}
use Common.{map, ◌≢◌, sym, pos, Vec, ◌≡◌, ◌∷◌, ◌∙◌, ◌<◌, ◌≤◌, ◌+◌, ◌-◌, ◌*◌, ◌/◌, ap, [], ℕ}
use Rattle.std.proofs.Math.Nat.{mul-div_cancel}
use Rattle.gf_nfg.proofs.lemmas.tables.Profiles.{length-profiles}
use Rattle.gf_nfg.proofs.lemmas.tables.Lists.{full_in_turn, get-rows_of, length-rows_of}
use Rattle.gf_nfg.proofs.lemmas.tables.Lists.{product_above_zero, rows_in_turn}

-- entries have their profiles and their rows
parted : (ps : List (List ℕ)) (rs : List (List Ratio)) → length ps ≡ length rs
    → (map (λ e. e.profile) (entries_of ps rs) ≡ ps)
    × (map (λ e. e.payoffs) (entries_of ps rs) ≡ rs)
parted [] [] h = (refl, refl)
parted (p ∷ ps) (r ∷ rs) h = grind (arith, parted ps rs)
parted ps rs h = absurd (omega (arith, h))

-- entries are found again from their profiles and their payoffs
pub entries_again : (entries : List Entry)
    → entries_of (map (λ e. e.profile) entries) (map (λ e. e.payoffs) entries) ≡ entries
entries_again [] = refl
entries_again (e ∷ entries) = ap (λ es. e ∷ es) (entries_again entries)

-- ---- a table of a frame and rows

module _ (frame : Frame) (rs : List (List Ratio))
    (one : length rs ≡ product (map length frame.strategies)) where
  abbrev counts : List ℕ
  counts = map length frame.strategies

  pub rows-table_with : rows (table_with frame rs) ≡ rs
  rows-table_with = (parted (profiles counts) rs (length-profiles counts ∙ sym one)).1

  pub is_table : length frame.strategies ≡ length frame.players
      → AllByRecursion (λ own. 0 < length own) frame.strategies
      → AllByRecursion (λ row. length row ≡ length frame.players) rs → IsTable (table_with frame rs)
  is_table one_list_each some full = record {
    one_list_each = one_list_each;
    some_strategy = some;
    one_entry_each = (parted (profiles counts) rs (length-profiles counts ∙ sym one)).0;
    one_payoff_each = rw rows-table_with full;
  }

pub entries_counted : (t : Table) → IsTable t
    → length t.entries ≡ product (map length t.strategies)
entries_counted t h = grind (arith, length-map, length-profiles)

-- ---- rows by their numbers

pub rows_counted : (players count : ℕ) (payoffs : List Ratio) (numbers : List ℕ)
    → HasRows players count payoffs numbers
    → length (kept_rows players count payoffs numbers) ≡ count
rows_counted players count payoffs numbers h = grind (arith, length-rows_of, length-map)

full_row : (players outcomes : ℕ) (payoffs : List Ratio) → length payoffs ≡ outcomes * players
    → (number : ℕ) → number ≤ outcomes → length (row_of players payoffs number) ≡ players
full_row players outcomes payoffs h zero less = length-replicate players (whole (pos 0))
full_row players outcomes payoffs h (suc k) less =
    let fits = mul-le-mul_right players less in grind (arith, length-take, length-drop)

pub full_rows : (players count : ℕ) (payoffs : List Ratio) (numbers : List ℕ)
    → HasRows players count payoffs numbers → AllByRecursion (λ row. length row ≡ players)
    (kept_rows players count payoffs numbers)
full_rows players count payoffs [] h = full_in_turn players count payoffs h
full_rows players count payoffs (k ∷ numbers) h =
    all_images (λ row. length row ≡ players) (row_of players payoffs) (k ∷ numbers)
    (all_weaker (λ n. n ≤ h.0) (λ n. length (row_of players payoffs n) ≡ players)
    (full_row players h.0 payoffs h.1) (k ∷ numbers) h.3)

-- ---- rows that are kept

module _ (players count : ℕ) (payoffs zeros : List Ratio) (rs : List (List Ratio)) (number : ℕ)
    (full : AreFull players count payoffs) (view : zeros ∷ rows_of players count payoffs ≡ rs)
    (less : number < length rs) where
  pub row_there : number ≢ 0 → slice_get rs number ≡ Some
      (take (number * players - (number - 1) * players) (drop ((number - 1) * players) payoffs))
  row_there some = grind (arith, get-rows_of, mul-suc, length-rows_of)

pub ruleset numbered = (full_in_turn, length-rows_of, row_there, rows_in_turn)

-- without players all rows are empty
none_paid : (payoffs : List Ratio) (choices : List ℕ)
    → rows_of 0 (length choices) payoffs ≡ map (row_of 0 payoffs) choices
none_paid payoffs [] = refl
none_paid payoffs (k ∷ choices) = grind (arith, none_paid payoffs choices)

pub in_turn : (players count : ℕ) (payoffs : List Ratio) (choices : List ℕ)
    → HasRows players count payoffs choices → (0 < players → length choices ≡ 0)
    → (length payoffs ≡ count * players)
    × (rows_of players count payoffs ≡ kept_rows players count payoffs choices)
in_turn players count payoffs [] h e = (h, refl)
in_turn players count payoffs (k ∷ choices) h e = grind (arith, none_paid)

-- the rows of outcomes by their numbers
outcome_row : (players outcomes : ℕ) (payoffs : List Ratio) (k : ℕ) → k ≤ outcomes
    → get_or (no_pay players ∷ rows_of players outcomes payoffs) k [] ≡ row_of players payoffs k
outcome_row players outcomes payoffs k h =
    grind (arith, get_or_from_slice_get, get-rows_of players outcomes payoffs (k - 1))

outcome_rows : (players outcomes : ℕ) (payoffs : List Ratio) (choices : List ℕ)
    → AllByRecursion (λ n. n ≤ outcomes) choices
    → map (λ n. get_or (no_pay players ∷ rows_of players outcomes payoffs) n []) choices
    ≡ map (row_of players payoffs) choices
outcome_rows players outcomes payoffs [] h = refl
outcome_rows players outcomes payoffs (k ∷ choices) h =
    grind (arith, outcome_row, outcome_rows players outcomes payoffs choices h.1)

pub record AreOutcomes (players count : ℕ) (payoffs : List Ratio) (choices : List ℕ) (outcomes : ℕ)
    : Type 0 where
  pub full : length payoffs ≡ outcomes * players
  pub numbered : AreNumbered count (no_pay players ∷ rows_of players outcomes payoffs) choices
  pub are : chosen_rows (no_pay players ∷ rows_of players outcomes payoffs) choices
      ≡ kept_rows players count payoffs choices

pub by_outcomes : (players count : ℕ) (payoffs : List Ratio) (choices : List ℕ) (size : ℕ)
    → HasRows players count payoffs choices → 0 < players → 0 < length choices
    → size ≡ length payoffs → AreOutcomes players count payoffs choices (size / players)
by_outcomes players count payoffs [] size h some chosen is = absurd (omega (arith, chosen))
by_outcomes players count payoffs (k ∷ choices) size h some chosen is =
    let same : h.0 ≡ size / players = grind (arith, mul-div_cancel) in
    let below = all_weaker (λ n. n ≤ h.0)
    (λ n. n < length (no_pay players ∷ rows_of players h.0 payoffs))
    (λ n less. grind (arith, length-rows_of)) (k ∷ choices) h.3 in
    rw (← same) (record {
      full = h.1;
      numbered = record { counted = grind (arith, length-map); below = below };
      are = outcome_rows players h.0 payoffs (k ∷ choices) h.3;
    })

pub ruleset rows_made = (in_turn, by_outcomes)

-- ---- rows of profiles

-- the row at a place is the one with its number
module _ (count : ℕ) (rows all : List (List Ratio)) (place number : ℕ) where
  pub row_chosen : (numbers : List ℕ) → AreNumbered count rows numbers
      → chosen_rows rows numbers ≡ all → place < length all
      → number ≡ unwrap_or (slice_get numbers place) (place + 1)
      → (number < length rows) × (slice_get all place ≡ slice_get rows number)
  row_chosen [] h view less is = grind (arith, length-drop)
  row_chosen (k ∷ numbers) h view less is =
      let within : place < length (k ∷ numbers) = grind (arith, length-map) in
      let same : number ≡ get_or (k ∷ numbers) place 0 =
      grind (arith, slice_get-get_or (k ∷ numbers) place 0) in
      grind (arith, all_at, slice_get-get_or, slice_get-map)

pub ruleset numbers_chosen = (row_chosen)

-- ---- a table's counts

-- if each player has a strategy, nobody has more strategies than there are profiles
count_at_most : (strategies : List (List (List ℕ))) (k : ℕ)
    → AllByRecursion (λ own. 0 < length own) strategies
    → length (get_or strategies k []) ≤ product (map length strategies)
count_at_most [] k h = omega arith
count_at_most (first ∷ others) zero h =
    let some = product_above_zero (map length others) (all_images (λ n. 0 < n) length others h.1) in
    grind (arith, mul-le-mul_left (length first) some)
count_at_most (first ∷ others) (suc k) h =
    grind (arith, mul-le-mul_right (product (map length others)) h.0, count_at_most others k h.1)

pub own_count_within : (t : Table) (k : ℕ) → IsTable t → IsWithinLimit t
    → length (get_or t.strategies k []) ≤ profile_limit
own_count_within t k h within = grind (arith, count_at_most, entries_counted)

-- ---- a table made from its parts

pub counts_of_lists : {A B Z : Type 0} (f : A → B) (lists : List (Vec A Z))
    → map length (map (λ own. map f own.items) lists) ≡ map vec_len lists
counts_of_lists f [] = refl
counts_of_lists f (own ∷ lists) = cc (length-map own.items f, counts_of_lists f lists)

pub some_in_lists : {A B Z : Type 0} (f : A → B) (lists : List (Vec A Z))
    → AllByRecursion (λ own. 0 < vec_len own) lists
    → AllByRecursion (λ own. 0 < length own) (map (λ own. map f own.items) lists)
some_in_lists f [] h = tt
some_in_lists f (own ∷ lists) h = grind (arith, length-map, some_in_lists f lists h.1)
