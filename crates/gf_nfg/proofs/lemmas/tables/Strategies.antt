-- Lists of labels, which are kept one after another.
use Rattle.gf_nfg.proofs.Common.{◌≡◌, ℕ, suc, ◌+◌, ◌-◌, ◌<◌, ◌≤◌, List, [], ◌∷◌, ◌++◌, length, map}
use Rattle.gf_nfg.proofs.Common.{take, drop, get_or, slice_get, min, refl, ap}
use Rattle.gf_nfg.proofs.Common.{arith, append_assoc, length-take, length-drop, drop_more, drop_min}
use Rattle.gf_nfg.proofs.Common.{drop-drop, length-map, take-map, take_min, drop-map, get_or-take}
use Rattle.gf_nfg.proofs.Common.{get_or-drop, get_or_past, get_or_from_slice_get, slice_get-get_or}
use Rattle.gf_nfg.proofs.Common.{strategies_of, groups, pieces, start_of, RisesTo}
use Rattle.gf_nfg.proofs.lemmas.tables.Pieces.{length-pieces, piece_at, start_before_end}
use Rattle.gf_nfg.proofs.lemmas.tables.Pieces.{end_within}

-- ---- groups of this many

length-groups : {A : Type 0} (sizes : List ℕ) (items : List A)
    → length (groups sizes items) ≡ length sizes
length-groups [] items = refl
length-groups (n ∷ sizes) items = ap suc (length-groups sizes (drop n items))

pub length-strategies_of : (counts : List ℕ) (labels : List (List ℕ))
    → length (strategies_of counts labels) ≡ length counts
length-strategies_of counts labels = grind (arith, length-map, length-groups)

-- lists are made of the groups before this place
pub record AreMade {A B : Type 0} (f : A → B) (all : List (List B)) (sizes : List ℕ)
    (items : List A) (i start : ℕ) : Type 0 where
  pub within : start ≤ length items
  pub are : all ++ groups (drop i sizes) (map f (drop start items)) ≡ groups sizes (map f items)

pub next_group : {A B : Type 0} (f : A → B) (all all' : List (List B)) (sizes : List ℕ)
    (items own : List A) (i size start end : ℕ)
    → i < length sizes → size ≡ get_or sizes i 0 → end ≡ min (length items) (start + size)
    → own ≡ take (end - start) (drop start items)
    → AreMade f all sizes items i start → all' ≡ all ++ map f own ∷ []
    → AreMade f all' sizes items (i + 1) end
next_group f all all' sizes items own i size start end h is stop cut m g =
    let left = drop start items in
    let part : end - start ≡ min size (length left) = omega (arith, length-drop start items) in
    grind (arith, take_min, take-map, drop-drop, drop_min, drop-map, append_assoc, drop_more)

-- ---- one of the lists

-- the list at a place stands from here to there among the labels of all
pub record IsOwn (labels own : List (List ℕ)) (start end : ℕ) : Type 0 where
  pub ordered : start ≤ end
  pub within : end ≤ length labels
  pub is : own ≡ take (end - start) (drop start labels)

pub own_is : (labels : List (List ℕ)) (ends items : List ℕ) (lists : List (List (List ℕ)))
    (at start end : ℕ) → RisesTo (length labels) 0 ends → pieces 0 ends labels ≡ lists
    → items ≡ ends → at < length lists → start ≡ start_of 0 items at → end ≡ get_or items at 0
    → IsOwn labels (get_or lists at []) start end
own_is labels ends items lists at start end rises are same less s e =
    grind (arith, length-pieces, piece_at, start_before_end, end_within, get_or_from_slice_get)

pub own_length : {labels own : List (List ℕ)} {start end : ℕ} → IsOwn labels own start end
    → length own ≡ end - start
own_length {labels} {own} {start} {end} h = grind (arith, length-take, length-drop)

-- one of its labels
pub own_label : {labels own : List (List ℕ)} {start end k : ℕ} → IsOwn labels own start end
    → k < length own → (start + k < end) × (slice_get own k ≡ slice_get labels (start + k))
own_label {labels} {own} {start} {end} {k} h less =
    let taken = get_or-take (end - start) (drop start labels) k [] in
    grind (arith, get_or-drop, slice_get-get_or, own_length)

pub has_list : (lists : List (List (List ℕ))) (at k : ℕ) → k < length (get_or lists at [])
    → at < length lists
has_list lists at k h = grind (arith, get_or_past)

pub ruleset as_many_lists = (length-strategies_of)

pub within_lists : (labels : List (List ℕ)) (ends items : List ℕ) (lists : List (List (List ℕ)))
    (at : ℕ) → pieces 0 ends labels ≡ lists → items ≡ ends → at < length lists → at < length items
within_lists labels ends items lists at are same less = grind (arith, length-pieces)

pub ruleset kept_lists = (has_list, own_is, own_label, own_length, within_lists)
