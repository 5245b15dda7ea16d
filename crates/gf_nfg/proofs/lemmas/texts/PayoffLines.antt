-- The lines of payoffs.
use Rattle.gf_nfg.proofs.Common
use Common.{flat_map-append, AllByRecursion, length-append, heading_text, append_assoc, first_line}
use Common.{lines_text, table_text, line_text, list_text, nat_tests, named_by, frame_by}
use Common.{row_text, lt-ltb, quoted, length, arith, Ratio, Table, Frame}
use Common.{rows, Names, List, refl, map, sym, ◌++◌, ◌≡◌, ◌∷◌, ◌-◌, ◌<◌, ◌≤◌, [], ℕ}
use Rattle.gf_nfg.specs.inner.TextParts.{payoffs_text}
use Rattle.gf_fraction.specs.NumberText.{number_text}
use Rattle.gf_nfg.proofs.lemmas.tables.Lists.{joined}
use Rattle.gf_nfg.proofs.lemmas.tables.Same.{frame_in}

-- ---- one payoff

pub payoff_last : (width left : ℕ) (n : Ratio) (more : List Ratio) → left ≤ 1
    → payoffs_text width left (n ∷ more) ≡ number_text n ++ 10 ∷ payoffs_text width width more
payoff_last width left n more h = grind (arith, nat_tests)

pub ruleset payoff_written = (append_assoc, length-append, payoff_last)

-- ---- full rows

-- a row is a line
row_laid : (width : ℕ) (payoff : Ratio) (row payoffs : List Ratio)
    → payoffs_text width (length (payoff ∷ row)) ((payoff ∷ row) ++ payoffs)
    ≡ line_text (payoff ∷ row) ++ payoffs_text width width payoffs
row_laid width payoff (next ∷ row) payoffs = grind (arith, append_assoc, row_laid width next row)
row_laid width payoff [] payoffs = grind (arith, append_assoc)

-- rows are lines
pub rows_laid : (width : ℕ) (rs : List (List Ratio)) → AllByRecursion (λ row. 0 < length row) rs
    → AllByRecursion (λ row. length row ≡ width) rs
    → payoffs_text width width (joined rs) ≡ lines_text (map row_text rs)
rows_laid width ((payoff ∷ row) ∷ rs) some h =
    grind (arith, append_assoc, row_laid, joined, rows_laid width rs some.1 h.1)
rows_laid width rs some h = grind arith

-- ---- the whole text

-- a text is a heading and lines
pub text_parts : (names : Names) (t : Table) → table_text (named_by names t)
    ≡ heading_text (frame_by names (frame_in t)) ++ lines_text (map row_text (rows t))
text_parts names t =
    let frame = frame_by names (frame_in t) in
    let heads = first_line frame
    ∷ list_text (map (λ own. list_text (map quoted own)) frame.strategies)
    ∷ quoted frame.comment ∷ [] ∷ [] in
    flat_map-append (λ (line : List ℕ). line ++ 10 ∷ []) heads (map row_text (rows t))

-- a heading, and rows
pub text_of_rows : (t : Table) (frame : Frame) (rs : List (List Ratio)) → frame ≡ frame_in t
    → rs ≡ rows t → heading_text frame ++ lines_text (map row_text rs) ≡ table_text t
text_of_rows t frame rs n e = rw (n, e) (sym (text_parts Names.Kept t))
