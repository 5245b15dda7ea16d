-- Lists that stand one after another, and their lengths.
use Rattle.gf_nfg.proofs.Common.{◌≡◌, suc, ◌+◌, ◌*◌, ◌<◌, ◌∷◌, map, refl, ap, ◌∙◌, sum}
use Rattle.gf_nfg.proofs.Common.{ℕ, take-append-drop, AllByRecursion, length-append, counted_labels}
use Rattle.gf_nfg.proofs.Common.{zero, List, [], length, take, drop, Some, groups, drop_at, take_at}
use Rattle.gf_nfg.proofs.Common.{arith, slice_get, length-drop, length-take, one-le-mul, length-map}
use Rattle.gf_nfg.proofs.Common.{decimal, drop-drop, rows_of, flat_map, mul-suc, positions, product}
use Rattle.std.proofs.lemmas.List.Sums.{sum_by-cons}
use Rattle.gf_nfg.proofs.lemmas.tables.NumbersInTurn.{length-numbers_from}

abbrev pub joined : {A : Type 0} → List (List A) → List A
joined lists = flat_map (λ items. items) lists

pub length-counted_labels : (n : ℕ) → length (counted_labels n) ≡ n
length-counted_labels n = length-map (positions n) decimal ∙ length-numbers_from 1 n

-- the lengths of the labels that counts stand for are the counts
pub counts_back : (counts : List ℕ) → map length (map counted_labels counts) ≡ counts
counts_back [] = refl
counts_back (n ∷ counts) = rw length-counted_labels (ap (λ ns. n ∷ ns) (counts_back counts))

pub sum-cons : (n : ℕ) (ns : List ℕ) → sum (n ∷ ns) ≡ n + sum ns
sum-cons n ns = sum_by-cons (λ (x : ℕ). x) n ns

-- lists one after another are parted by their lengths
pub groups-joined : {A : Type 0} (lists : List (List A))
    → groups (map length lists) (joined lists) ≡ lists
groups-joined [] = refl
groups-joined (xs ∷ lists) = grind (arith, drop_at, take_at, groups-joined lists)

pub length-joined : {A : Type 0} (lists : List (List A))
    → length (joined lists) ≡ sum (map length lists)
length-joined [] = refl
length-joined (xs ∷ lists) = grind (arith, length-append, sum-cons, length-joined lists)

-- of one length each
pub length-joined_rows : {A : Type 0} (size : ℕ) (lists : List (List A))
    → AllByRecursion (λ xs. length xs ≡ size) lists → length (joined lists) ≡ size * length lists
length-joined_rows size [] h = omega arith
length-joined_rows size (xs ∷ lists) h =
    grind (arith, length-append, mul-suc, length-joined_rows size lists h.1)

-- they are found again
pub rows_again : {A : Type 0} (size : ℕ) (lists : List (List A))
    → AllByRecursion (λ xs. length xs ≡ size) lists
    → rows_of size (length lists) (joined lists) ≡ lists
rows_again size [] h = refl
rows_again size (xs ∷ lists) h = grind (arith, joined, drop_at, take_at, rows_again size lists h.1)

pub length-rows_of : {A : Type 0} (size n : ℕ) (items : List A) → length (rows_of size n items) ≡ n
length-rows_of size zero items = refl
length-rows_of size (suc n) items = ap suc (length-rows_of size n (drop size items))

pub get-rows_of : {A : Type 0} (size n : ℕ) (items : List A) (k : ℕ) → k < n
    → slice_get (rows_of size n items) k ≡ Some (take size (drop (k * size) items))
get-rows_of size (suc n) items (suc k) h =
    grind (arith, drop-drop, get-rows_of size n (drop size items) k (omega arith))
get-rows_of size n items k h = grind arith

pub get-joined : {A : Type 0} (size : ℕ) (lists : List (List A)) (k : ℕ)
    → AllByRecursion (λ xs. length xs ≡ size) lists → k < length lists
    → slice_get lists k ≡ Some (take size (drop (k * size) (joined lists)))
get-joined size lists k h less = grind (arith, rows_again, get-rows_of)

-- of as many items as they hold they are full, and have them all
pub full_in_turn : {A : Type 0} (size n : ℕ) (items : List A) → length items ≡ n * size
    → AllByRecursion (λ row. length row ≡ size) (rows_of size n items)
full_in_turn size zero items h = tt
full_in_turn size (suc n) items h =
    grind (arith, length-take, length-drop, full_in_turn size n (drop size items))

pub rows_in_turn : {A : Type 0} (size n : ℕ) (items : List A) → length items ≡ n * size
    → joined (rows_of size n items) ≡ items
rows_in_turn size zero [] h = refl
rows_in_turn size zero (x ∷ items) h = absurd (omega (arith, h))
rows_in_turn size (suc n) items h =
    grind (arith, length-drop, take-append-drop, rows_in_turn size n (drop size items))

pub no_counts : (counts : List ℕ) → length counts ≡ 0 → product counts ≡ 1
no_counts [] e = refl
no_counts (n ∷ counts) e = absurd (omega (arith, e))

-- of positive counts there are some
pub product_above_zero : (counts : List ℕ) → AllByRecursion (λ n. 0 < n) counts → 0 < product counts
product_above_zero [] h = omega arith
product_above_zero (n ∷ counts) h = one-le-mul h.0 (product_above_zero counts h.1)
