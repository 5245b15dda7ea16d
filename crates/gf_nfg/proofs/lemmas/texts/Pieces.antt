-- Canonical text, piece by piece.
use Rattle.gf_nfg.proofs.Common.{◌≡◌, ℕ, ◌+◌, ◌*◌, ◌<◌, ◌≤◌, [], ◌∷◌, map, refl, sym, ap, Err, Ok}
use Rattle.gf_nfg.proofs.Common.{append_assoc, at_drop_more, take-append-le, take-append-drop, List}
use Rattle.gf_nfg.proofs.Common.{◌++◌, drop, Some, codes, OnErr, Result, Ratio, spaced, Keeps}
use Rattle.gf_nfg.proofs.Common.{length, get_or, drop_all, line_text, list_text}
use Rattle.gf_nfg.proofs.Common.{drop_more, slice_get_within, get_or_from_slice_get, quoted}
use Rattle.gf_nfg.proofs.Common.{slice_get, arith, length-append, length-take, append-nil, others_text}
use Rattle.std.specs.List.{slice_range}
use Rattle.std.proofs.Math.Seq.{drop-append_seam}
use Rattle.std.proofs.lemmas.List.Folds.{drop_split}
use Rattle.gf_fraction.specs.NumberText.{number_text}
use Rattle.gf_nfg.specs.inner.ListsLeft.{items_text}
use Rattle.gf_nfg.specs.inner.TextParts.{EndsWithLine, lines_rest}

spaced_items : (first : List ℕ) (items : List (List ℕ))
    → spaced (first ∷ (items ++ codes "}" ∷ [])) ≡ first ++ 32 ∷ items_text items
spaced_items first [] = refl
spaced_items first (item ∷ items) = ap (λ (bs : List ℕ). first ++ 32 ∷ bs) (spaced_items item items)

pub list_text_is : (items : List (List ℕ)) → list_text items ≡ codes "{ " ++ items_text items
list_text_is items = spaced_items (codes "{") items

pub spaced_is : (first : List ℕ) (items : List (List ℕ))
    → spaced (first ∷ items) ≡ first ++ others_text items
spaced_is first [] = sym (append-nil first)
spaced_is first (item ∷ items) = ap (λ (bs : List ℕ). first ++ 32 ∷ bs) (spaced_is item items)

pub drop_from : {A : Type 0} (xs : List A) (at : ℕ) (x : A) → slice_get xs at ≡ Some x
    → drop at xs ≡ x ∷ drop (at + 1) xs
drop_from xs at x h =
    rw (drop_more xs at x (slice_get_within xs at x h), get_or_from_slice_get xs at x x h) refl

-- what was there before is kept if more was written, and then a call writes the rest or fails
pub kept_through : {A E : Type 0} (r : Result A E) (old out new : List ℕ) → Keeps old out
    → OnErr r (Keeps out new) → OnErr r (Keeps old new)
kept_through r old out new kept h =
    grind (arith, length-take, take-append-le, take-append-drop (length out) new)

-- what is still to come of names in braces
abbrev pub names_left : List (List ℕ) → ℕ → List ℕ
names_left names at = items_text (map quoted (drop at names))

pub name_next : (names : List (List ℕ)) (at : ℕ) → at < length names
    → names_left names at ≡ quoted (get_or names at []) ++ 32 ∷ names_left names (at + 1)
name_next names at h = at_drop_more (λ ns. items_text (map quoted ns)) names at [] h

pub ruleset names_closed = (append_assoc, drop_all, get_or_from_slice_get, list_text_is, name_next)

abbrev pub payoffs_rest : List Ratio → List ℕ
payoffs_rest payoffs = others_text (map number_text payoffs)

pub ruleset rows_spaced = (append_assoc, spaced_is)

-- what a text ends with, from a place on
pub copied : (text line : List ℕ) (start : ℕ) → start ≤ length text → drop start text ≡ line
    → slice_range text start (length text) ≡ line
copied text line start h is = grind (arith, append-nil, drop_all, drop_split text start (length text) h)

-- a row more was written
pub row_written : (rs : List (List Ratio)) (at : ℕ) (row : List Ratio) (old new whole : List ℕ)
    → slice_get rs at ≡ Some row → new ≡ old ++ line_text row → old ++ lines_rest rs at ≡ whole
    → new ++ lines_rest rs (at + 1) ≡ whole
row_written rs at row old new whole is written h = grind (arith, append_assoc, drop_from)

-- it is now the last one
pub row_begun : (row : List Ratio) (old new : List ℕ) → new ≡ old ++ line_text row
    → length new ≤ length old + (81 * length row + 1) → EndsWithLine row (length old) new
row_begun row old new written within = grind (arith, length-append, drop-append_seam)
