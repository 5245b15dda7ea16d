-- Lists that are cut into pieces.
use Rattle.gf_nfg.proofs.Common.{drop-append-le, slice_eq-Decides, take-append-drop, take-append-le}
use Rattle.gf_nfg.proofs.Common.{AllByRecursion, length-append, length-drop, length-take, slice_get}
use Rattle.gf_nfg.proofs.Common.{Decides-eqb, all_both, drop-drop, drop_all, is_spelling, take_all}
use Rattle.gf_nfg.proofs.Common.{IsLabel, RisesTo, all_at, arith, drop_at, get_or, length, start_of}
use Rattle.gf_nfg.proofs.Common.{IsCut, List, Some, drop, pieces, refl, suc, take, true, ◌++◌, ◌≡◌}
use Rattle.gf_nfg.proofs.Common.{[], ap, ℕ, ◌+◌, ◌-◌, ◌<◌, ◌∙◌, ◌∷◌, ◌≤◌}

pub start_of_suc : (from : ℕ) (ends : List ℕ) (k d : ℕ) → k < length ends
    → start_of from ends (suc k) ≡ get_or ends k d
start_of_suc from (end ∷ ends) (suc k) d h = start_of_suc end ends k d (omega (arith, h))
start_of_suc from ends k d h = grind arith

pub length-pieces : {A : Type 0} (from : ℕ) (ends : List ℕ) (items : List A)
    → length (pieces from ends items) ≡ length ends
length-pieces from [] items = refl
length-pieces from (end ∷ ends) items = ap suc (length-pieces end ends items)

-- each piece lies between its start and its end
pub piece_at : {A : Type 0} (from : ℕ) (ends : List ℕ) (items : List A) (k d : ℕ) → k < length ends
    → slice_get (pieces from ends items) k
    ≡ Some (take (get_or ends k d - start_of from ends k) (drop (start_of from ends k) items))
piece_at from (end ∷ ends) items (suc k) d h = piece_at end ends items k d (omega (arith, h))
piece_at from ends items k d h = grind arith

pub rises_within : (whole from : ℕ) (ends : List ℕ) → RisesTo whole from ends → from ≤ whole
rises_within whole from [] h = omega (arith, h)
rises_within whole from (end ∷ ends) h = omega (arith, h.0, rises_within whole end ends h.1)

pub start_before_end : (whole from : ℕ) (ends : List ℕ) (k d : ℕ)
    → RisesTo whole from ends → k < length ends → start_of from ends k ≤ get_or ends k d
start_before_end whole from (end ∷ ends) (suc k) d r h =
    start_before_end whole end ends k d r.1 (omega (arith, h))
start_before_end whole from ends k d r h = grind arith

pub end_within : (whole from : ℕ) (ends : List ℕ) (k d : ℕ)
    → RisesTo whole from ends → k < length ends → get_or ends k d ≤ whole
end_within whole from (end ∷ ends) (suc k) d r h = grind (arith, end_within whole end ends k d r.1)
end_within whole from ends k d r h = grind (arith, rises_within)

part_and_rest : {A : Type 0} (from n : ℕ) (xs : List A) → from ≤ n
    → take (n - from) (drop from xs) ++ drop n xs ≡ drop from xs
part_and_rest from n xs h =
    grind (arith, drop-drop (n - from) from xs, take-append-drop (n - from) (drop from xs))

-- a list and its ends are known by the pieces
pub cut_once : {A : Type 0} (from : ℕ) (ends stops : List ℕ) (xs ys : List A)
    → RisesTo (length xs) from ends → RisesTo (length ys) from stops
    → pieces from ends xs ≡ pieces from stops ys → (ends ≡ stops) × (drop from xs ≡ drop from ys)
cut_once from [] [] xs ys h k e = (refl, grind (arith, drop_all))
cut_once from (end ∷ ends) (stop ∷ stops) xs ys h k e =
    let near = rises_within (length xs) end ends h.1 in
    let close = rises_within (length ys) stop stops k.1 in
    let first : take (end - from) (drop from xs) ≡ take (stop - from) (drop from ys) = cc in
    let sizes = simp (length-take, length-drop) at (ap length first) in
    let same : end ≡ stop = omega (arith, h.0, k.0) in
    let rest : pieces end ends xs ≡ pieces stop stops ys = cc in
    let more = cut_once end ends stops xs ys h.1 (rw same k.1) (rest ∙ rw same refl) in
    (cc (same, more.0), cc (part_and_rest from end xs h.0, part_and_rest from stop ys k.0, more.1))
cut_once from ends stops xs ys h k e = absurd cc

pub take_part : {A : Type 0} (n m : ℕ) (xs ys : List A) → m + n ≤ length xs
    → take n (drop m (xs ++ ys)) ≡ take n (drop m xs)
take_part n m xs ys h = grind (arith, length-drop, drop-append-le, take-append-le)

-- a piece more at the end
pub pieces-push : {A : Type 0} (from : ℕ) (ends : List ℕ) (items more : List A)
    → RisesTo (length items) from ends
    → pieces from (ends ++ (length items + length more) ∷ []) (items ++ more)
    ≡ pieces from ends items ++ more ∷ []
pieces-push from [] items more h = grind (arith, drop_at, take_all)
pieces-push from (end ∷ ends) items more h =
    grind (arith, pieces-push end ends items more h.1, take_part, rises_within)

pub rises-push : (from : ℕ) (ends : List ℕ) (whole next : ℕ) → RisesTo whole from ends
    → whole ≤ next → RisesTo next from (ends ++ next ∷ [])
rises-push from [] whole next h more = (omega (arith, h, more), refl)
rises-push from (end ∷ ends) whole next h more = (h.0, rises-push end ends whole next h.1 more)

-- a piece more
pub rises-more : {A : Type 0} (ends : List ℕ) (items more : List A) → RisesTo (length items) 0 ends
    → RisesTo (length (items ++ more)) 0 (ends ++ length (items ++ more) ∷ [])
rises-more ends items more h = grind (arith, length-append, rises-push)

pub pieces-more : {A : Type 0} (ends : List ℕ) (items more : List A)
    → RisesTo (length items) 0 ends
    → pieces 0 (ends ++ length (items ++ more) ∷ []) (items ++ more)
    ≡ pieces 0 ends items ++ more ∷ []
pieces-more ends items more h = rw (length-append items more) (pieces-push 0 ends items more h)

pub spelled-more : (ends bytes more : List ℕ) → IsCut ends bytes → is_spelling more ≡ true
    → AllByRecursion IsLabel (pieces 0 (ends ++ length (bytes ++ more) ∷ []) (bytes ++ more))
spelled-more ends bytes more h spelled = grind (arith, pieces-more, all_both)

pub ruleset one_piece_more = (rises-more, rises-push, pieces-more, spelled-more)

pub ruleset one_way_cut = (cut_once, slice_eq-Decides, Decides-eqb)

pub ruleset as_many_pieces = (length-pieces)

pub ruleset cut_at = (drop, end_within, piece_at, start_before_end, take)

pub ruleset one_piece = (length-pieces, all_at)
