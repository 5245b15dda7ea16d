-- Places in classes that are merged, and the rows at them.
use Rattle.gf_nfg.proofs.Common.{slice_get-get_or, range_with_len, slice_get-map, get_or_past, List}
use Rattle.gf_nfg.proofs.Common.{slice_get, ShareRows, AreShared, cases_lt, LeadBack, length, arith}
use Rattle.gf_nfg.proofs.Common.{get_or, all_at, Ratio, take, Some, ◌++◌, ◌≡◌, ◌+◌, ◌<◌, [], ℕ}
use Rattle.std.proofs.lemmas.List.{get_or_append_left, get_or-append-add}
use Rattle.std.proofs.lemmas.List.FromFn.{get_or-range_with_len, length-range_with_len}
use Rattle.gf_nfg.proofs.lemmas.tables.Agreement.{same_more}

-- ---- each place in a class of its own

pub back_begun : (n : ℕ) → LeadBack (range_with_len 0 n)
back_begun n = grind (arith, cases_lt, get_or_past, length-range_with_len, get_or-range_with_len)

-- a place on the way to a root
pub record IsOnWay (begin parents : List ℕ) (place at : ℕ) : Type 0 where
  pub back : LeadBack parents
  pub places : length parents ≡ length begin
  pub there : at < length parents
  pub rows : (row : ℕ → List Ratio) → ShareRows row begin
      → ShareRows row parents × (row at ≡ row place)

-- ---- the rows of two tables

-- the rows of the first have the places from 0 on, and those of the second the places after them
abbrev pub row_in : List (List Ratio) → List (List Ratio) → ℕ → List Ratio
row_in a b n = get_or (a ++ b) n []

-- the rows at the first profiles of two tables are the same
pub record IsCompared (a b xs ys : List (List Ratio)) (parents : List ℕ) (at : ℕ) : Type 0 where
  pub places : length parents ≡ length a + length b
  pub rows : ShareRows (row_in a b) parents
  pub same : take at xs ≡ take at ys

pub row_at : (all rows : List (List Ratio)) (numbers : List ℕ) (at : ℕ)
    → AreShared all rows numbers → at < length numbers → (get_or numbers at 0 < length rows)
    × (slice_get all at ≡ Some (get_or rows (get_or numbers at 0) []))
row_at all rows numbers at shared h = grind (arith, slice_get-get_or, slice_get-map, all_at)

pub rows_in : (a b : List (List Ratio)) (m n : ℕ) → m < length a
    → (row_in a b m ≡ get_or a m []) × (row_in a b (length a + n) ≡ get_or b n [])
rows_in a b m n h = (get_or_append_left a b [] m h, get_or-append-add a b n [])

pub compared_more : (a b xs ys : List (List Ratio)) (old parents : List ℕ) (at m n : ℕ)
    → IsCompared a b xs ys old at → m < length a → slice_get xs at ≡ Some (get_or a m [])
    → slice_get ys at ≡ Some (get_or b n []) → get_or a m [] ≡ get_or b n []
    → length parents ≡ length old
    → ((row : ℕ → List Ratio) → row m ≡ row (length a + n) → ShareRows row old
    → ShareRows row parents) → IsCompared a b xs ys parents (at + 1)
compared_more a b xs ys old parents at m n done h left right same size rows =
    grind (arith, rows_in, same_more, rows (row_in a b))
