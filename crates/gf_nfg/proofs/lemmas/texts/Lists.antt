-- Lists in braces, which are written in several parts.
use Rattle.gf_nfg.proofs.Common.{get_or_from_slice_get, take-append-drop, slice_get_within, RisesTo}
use Rattle.gf_nfg.proofs.Common.{length-append, append_assoc, heading_text, append-nil, slice_get}
use Rattle.gf_nfg.proofs.Common.{drop_more, drop-drop, list_text, drop_all, length, get_or, quoted}
use Rattle.gf_nfg.proofs.Common.{pieces, false, codes, arith, Frame, List, ◌++◌, refl, true, take}
use Rattle.gf_nfg.proofs.Common.{drop, Some, ◌≡◌, ◌+◌, ◌-◌, ◌<◌, ◌≤◌, ◌∷◌, map, sum, [], ℕ}
use Rattle.std.specs.List.{sum_by}
use Rattle.std.proofs.lemmas.List.Sums.{get_or-le-sum_by, sum-map, sum_by-append, sum_by-cons}
use Rattle.gf_nfg.specs.inner.ListsLeft.{items_text, lists_text, size_of}
use Rattle.gf_nfg.specs.inner.TextParts.{ending_text, front_text}
use Rattle.gf_nfg.proofs.lemmas.tables.Strategies.{has_list}
use Rattle.gf_nfg.proofs.lemmas.texts.Pieces.{list_text_is}

-- ---- the parts

pub list_opens : (lists : List (List (List ℕ))) (n k : ℕ) → n < length lists
    → lists_text false k (drop n lists) ≡ codes "{ " ++ lists_text true k (drop n lists)
list_opens lists n k h = rw (drop_more lists n [] h) refl

pub label_next : (lists : List (List (List ℕ))) (n k : ℕ) → n < length lists
    → k < length (get_or lists n []) → lists_text true k (drop n lists)
    ≡ quoted (get_or (get_or lists n []) k []) ++ 32 ∷ lists_text true (k + 1) (drop n lists)
label_next lists n k h less = grind (arith, drop_more, append_assoc)

pub list_ends : (lists : List (List (List ℕ))) (n k : ℕ) → n < length lists
    → length (get_or lists n []) ≤ k
    → lists_text true k (drop n lists) ≡ codes "} " ++ lists_text false 0 (drop (n + 1) lists)
list_ends lists n k h all = rw (drop_more lists n [] h, drop_all k (get_or lists n []) all) refl

pub label_within : (lists : List (List (List ℕ))) (n k : ℕ) (label : List ℕ)
    → slice_get (get_or lists n []) k ≡ Some label → length label ≤ size_of lists
label_within lists n k label found =
    let less = slice_get_within (get_or lists n []) k label found in
    let in_own = get_or-le-sum_by length (get_or lists n []) k [] less in
    grind (arith, get_or-le-sum_by, has_list, get_or_from_slice_get)

pub ruleset next_of_lists =
    (append_assoc, get_or_from_slice_get, label_next, length-append, list_ends, list_opens)

-- ---- the whole

lists_are : (lists : List (List (List ℕ)))
    → items_text (map (λ own. list_text (map quoted own)) lists)
    ≡ lists_text false 0 lists ++ codes "}"
lists_are [] = refl
lists_are (own ∷ lists) = grind (arith, append_assoc, list_text_is, lists_are lists)

pub heading_is : (frame : Frame) → heading_text frame
    ≡ front_text frame ++ (lists_text false 0 frame.strategies ++ ending_text frame)
heading_is frame = grind (arith, append_assoc, list_text_is, lists_are)

pub heading_written : (frame : Frame) (old front lists left out : List ℕ)
    → front ≡ old ++ front_text frame
    → lists ++ left ≡ front ++ lists_text false 0 frame.strategies → left ≡ []
    → out ≡ lists ++ ending_text frame → out ≡ old ++ heading_text frame
heading_written frame old front lists left out f e none h =
    rw (heading_is frame) (grind (arith, append_assoc, append-nil))

-- ---- how many bytes their labels have

pub sizes : (from : ℕ) (ends : List ℕ) (labels : List (List ℕ)) → RisesTo (length labels) from ends
    → size_of (pieces from ends labels) ≡ sum_by length (drop from labels)
sizes from [] labels h = grind (arith, drop_all)
sizes from (end ∷ ends) labels h =
    let own = take (end - from) (drop from labels) in
    let first = sum_by-cons (λ (own : List (List ℕ)). sum_by length own) own
    (pieces end ends labels) in
    let past : drop (end - from) (drop from labels) ≡ drop end labels = grind (arith, drop-drop) in
    let both = sum_by-append length own (drop end labels) in
    let whole = rw past at (take-append-drop (end - from) (drop from labels)) in
    omega (arith, first, rw whole at both, sizes end ends labels h.1)

pub ruleset size_of_pieces = (sizes, sum-map)
