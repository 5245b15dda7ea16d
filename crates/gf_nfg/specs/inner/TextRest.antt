-- What is still to come of a text that is given piece by piece.
use Rattle.std.specs.Prelude.{ℕ, ◌*◌, ◌+◌, ◌<◌, ◌≤◌, Bool, true, false, List, ◌++◌, drop, length}
use Rattle.std.specs.List.{AllByRecursion}
use Rattle.gf_nfg.specs.inner.ListsLeft.{lists_left, size_of}
use Rattle.gf_nfg.specs.inner.TextParts.{lines_rest, lines_with}
use Rattle.gf_nfg.specs.declared.text.rest.Rest.{Rest}

abbrev pub rest_text : Rest → List ℕ
rest_text (Rest.Copies lines numbers next) = lines_with lines (drop next numbers.items)
rest_text (Rest.Table strategies written ending rows next) =
    lists_left strategies written ++ (ending.items ++ lines_rest rows next)

abbrev pub are_copies : Rest → Bool
are_copies (Rest.Copies lines numbers next) = true
are_copies (Rest.Table strategies written ending rows next) = false

-- A piece that begins with this many bytes needs no more memory than this. There is room for all
-- lines that are copied; of a table, for 65,536 bytes and what may come last in a piece: a label with
-- its quotes and a space, the ending, or a line. So many lines are given.
abbrev pub HasRoom : Rest → ℕ → ℕ → Type 0
HasRoom (Rest.Copies lines numbers next) bytes capacity =
    AllByRecursion (λ number. number < length lines) numbers.items
    × (next ≤ length numbers.items)
    × (bytes + length (lines_with lines (drop next numbers.items)) ≤ capacity)
HasRoom (Rest.Table strategies written ending rows next) bytes capacity =
    (65536 + (size_of strategies + 3) ≤ capacity)
    × (65536 + length ending.items ≤ capacity)
    × AllByRecursion (λ row. 65536 + (81 * length row + 1) ≤ capacity) rows
    × (next ≤ length rows)
