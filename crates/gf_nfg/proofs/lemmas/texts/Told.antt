-- What a text has of a file that is being told, and that it is the canonical text at the end.
use Rattle.gf_nfg.proofs.Common
use Common.{IsWithinLimit, content_with, heading_text, HasToldTable, SpellsTable, ◌≡◌}
use Common.{append-nil, all_weaker, IsComplete, content_of, lines_text, table_text, MeansTable, suc}
use Common.{laid_lines, frame_in, table_of, named_by, frame_by, row_text, mul_comm, arith}
use Common.{Content, rows_by, rows_of, AreLaid, HasText, Heading, Payoffs, length, Ratio, Table, []}
use Common.{zero, Names, List, Outcomes, ◌++◌, refl, ◌*◌, ◌<◌, ◌∷◌, map, sym, ◌∙◌, ℕ}
use Rattle.gf_nfg.specs.declared.text.ToldText.{ToldText}
use Rattle.gf_nfg.proofs.lemmas.tables.Lists.{full_in_turn, no_counts, rows_in_turn}
use Rattle.gf_nfg.proofs.lemmas.tables.Meaning.{rows-table_of}
use Rattle.gf_nfg.proofs.lemmas.texts.PayoffLines.{rows_laid, text_parts}

-- ---- the lines of all payoffs

laid_whole : (width n : ℕ) (payoffs : List Ratio) → length payoffs ≡ n * width
    → (width ≡ 0 → n ≡ 1)
    → laid_lines width payoffs ≡ lines_text (map row_text (rows_of width n payoffs))
laid_whole zero n [] h one = rw (one refl) refl
laid_whole zero n (x ∷ payoffs) h one = absurd (omega (arith, h))
laid_whole (suc k) n payoffs h one =
    let full = full_in_turn (suc k) n payoffs h in
    let some = all_weaker (λ row. length row ≡ suc k) (λ row. 0 < length row)
    (λ row is. omega (arith, is)) (rows_of (suc k) n payoffs) full in
    grind (arith, rows_in_turn (suc k) n payoffs h, rows_laid (suc k) _ some full)

-- ---- the whole

-- with these lines after its heading it is the canonical text
pub text_with : (names : Names) (c : Content) (out : List ℕ) → IsComplete c
    → out ≡ heading_text (frame_by names (frame_in c)) ++ lines_text
    (map row_text (rows_by c c.choices)) → out ≡ table_text (named_by names (table_of c))
text_with names c out h e = grind (arith, rows-table_of, text_parts names (table_of c))

lines_are : (c : Content) → IsComplete c → c.choices ≡ []
    → laid_lines (length c.players) c.payoffs ≡ lines_text (map row_text (rows_by c c.choices))
lines_are c h none = grind (arith, laid_whole, no_counts, mul_comm)

lines_end : {width left : ℕ} {heading text : List ℕ} {payoffs : List Ratio}
    → AreLaid width left heading text payoffs → text ≡ heading ++ laid_lines width payoffs
lines_end {text = text} {payoffs = payoffs} l =
    sym (append-nil text) ∙ rw (append-nil payoffs) at (l.with_more [])

-- in payoff version the text is whole
pub payoffs_written : (bytes : List ℕ) (heading : Heading) (names : Names) (t : ToldText)
    → t.version ≡ Payoffs → HasToldTable (HasText names) bytes heading t
    → (u : Table) × SpellsTable bytes u × IsWithinLimit u
    × (t.text.items ≡ table_text (named_by names u))
payoffs_written bytes heading names t is h =
    let c = content_with heading h.payoffs h.numbers in
    let lines = lines_are c h.means.complete (h.unnumbered (sym h.holding.version_is ∙ is)) in
    let end = rw (h.holding.width_is, lines) at (lines_end (h.holding.lines is)) in
    (table_of c, h.means.spelled, h.means.within, text_with names c _ h.means.complete end)

-- in outcome version it ends before the lines
pub record BeginsText (bytes : List ℕ) (names : Names) (c : Content) (text : List ℕ) : Type 0 where
  pub means : MeansTable bytes c
  pub text_is : text ≡ heading_text (frame_by names (frame_in c))

pub outcomes_begin : (bytes : List ℕ) (heading : Heading) (names : Names) (t : ToldText)
    → t.version ≡ Outcomes → HasToldTable (HasText names) bytes heading t
    → BeginsText bytes names (content_of heading t.kept) t.text.items
outcomes_begin bytes heading names t is h = grind arith
