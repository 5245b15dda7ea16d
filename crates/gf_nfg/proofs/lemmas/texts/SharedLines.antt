-- Lines of rows that profiles share.
use Rattle.gf_nfg.proofs.Common.{get_or_from_slice_get, AllByRecursion, length-append, append_assoc}
use Rattle.gf_nfg.proofs.Common.{at_drop_more, length-take, get_or-map, length-map, map-append, ◌≡◌}
use Rattle.gf_nfg.proofs.Common.{lines_with, lines_text, slice_get, line_text, row_text, length, []}
use Rattle.gf_nfg.proofs.Common.{get_or, Result, arith, Ratio, subst, OnErr, Keeps, List, ◌++◌, ◌+◌}
use Rattle.gf_nfg.proofs.Common.{drop, refl, take, Some, ◌<◌, ◌∷◌, map, sym, Err, ◌≤◌, Ok, ℕ}
use Rattle.std.specs.Prelude.{OnOk}
use Rattle.gf_nfg.proofs.lemmas.tables.LabelLists.{one_taken_at}

-- that of one more row
pub line_more : (rows : List (List Ratio)) (number : ℕ) (row : List Ratio)
    → slice_get rows number ≡ Some row
    → map line_text (take (number + 1) rows)
    ≡ map line_text (take number rows) ++ line_text row ∷ []
line_more rows number row found =
    rw (one_taken_at rows number row found) (map-append line_text (take number rows) (row ∷ []))

pub ruleset lines_more = (line_more)

-- a text grows, whether a line was written or only a part of it
pub line_grows : {A E : Type 0} (r : Result A E) (old new line : List ℕ) → OnOk r (new ≡ old ++ line)
    → OnErr r (Keeps old new) → length old ≤ length new
line_grows r old new line whole kept = grind (arith, length-append, length-take)

-- ---- chosen lines

-- that of the next number and the rest
pub chosen_next : (lines : List (List ℕ)) (numbers : List ℕ) (at : ℕ) → at < length numbers
    → lines_with lines (drop at numbers)
    ≡ get_or lines (get_or numbers at 0) [] ++ lines_with lines (drop (at + 1) numbers)
chosen_next lines numbers at h = at_drop_more (lines_with lines) numbers at 0 h

pub ruleset next_chosen = (append_assoc, chosen_next, get_or_from_slice_get, length-append)

-- the lines of all profiles
pub lines_chosen : (rows : List (List Ratio)) (numbers : List ℕ)
    → AllByRecursion (λ number. number < length rows) numbers
    → lines_with (map line_text rows) numbers
    ≡ lines_text (map row_text (map (λ n. get_or rows n []) numbers))
lines_chosen rows [] h = refl
lines_chosen rows (number ∷ numbers) h = grind (arith, get_or-map, lines_chosen rows numbers h.1)

pub ruleset shared_lines = (length-map, lines_chosen)
