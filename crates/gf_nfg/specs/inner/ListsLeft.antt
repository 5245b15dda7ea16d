-- Lists of labels in braces, which are written in several parts.
use Rattle.std.specs.Prelude.{ℕ, Bool, List, [], ◌∷◌, ◌++◌, map, codes, drop, false}
use Rattle.std.specs.Prelude.{if◌then◌else◌, length}
use Rattle.std.specs.List.{sum_by}
use Rattle.gf_nfg.specs.TableText.{quoted}
use Rattle.gf_nfg.specs.declared.text.lists.ListsWritten.{ListsWritten}

-- each item and a space, and the closing brace
abbrev pub items_text : List (List ℕ) → List ℕ
items_text [] = codes "}"
items_text (item ∷ items) = item ++ 32 ∷ items_text items

-- lists, each before a space; of the first one the opening brace and so many labels may be written
abbrev pub lists_text : Bool → ℕ → List (List (List ℕ)) → List ℕ
lists_text opened labels [] = []
lists_text opened labels (own ∷ lists) = (if opened then [] else codes "{ ")
    ++ (items_text (map quoted (drop labels own)) ++ 32 ∷ lists_text false 0 lists)

-- what is still to be written of lists
abbrev pub lists_left : List (List (List ℕ)) → ListsWritten → List ℕ
lists_left lists w = lists_text w.opened w.labels (drop w.lists lists)

-- how many bytes the labels have, all together
abbrev pub size_of : List (List (List ℕ)) → ℕ
size_of lists = sum_by (λ own. sum_by length own) lists
