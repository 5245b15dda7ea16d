-- The text of a known label: which bytes it is, and that no others are.
use Rattle.std.proofs.Common.{◌≡◌, ℕ, ◌+◌, ◌-◌, ◌<◌, ◌≤◌, true, false, List, [], ◌∷◌}
use Rattle.std.proofs.Common.{◌++◌, length, get_or, take, drop, refl, sym, ap, ◌∙◌, arith}
use Rattle.std.proofs.Common.{append_assoc, inl, inr, suc}
use Rattle.std.specs.Prelude.{slice_range}
use Rattle.std.proofs.lemmas.Bool.{cases_Bool}
use Rattle.std.proofs.lemmas.Bool.Decides.{Decides-eqb}
use Rattle.std.proofs.lemmas.List.{at_drop_more, length-drop, length-append, get_or-drop}
use Rattle.std.proofs.lemmas.Simd.{chunk-drop}
use Rattle.std.proofs.lemmas.Slice.Eq.{slice_eq-Decides}
use Rattle.std.proofs.Math.Seq.{get_or-append_seam, take-append_seam}
use Rattle.gf_token.specs.Byte.{is_space}
use Rattle.gf_token.specs.LabelSpelling.{is_spelling}
use Rattle.gf_token.specs.inner.Lexing.{lex}
use Rattle.gf_token.specs.inner.Lexing.Mode.{Gap, InText}
use Rattle.gf_token.specs.Next.{starts, is_text_of}
use Rattle.gf_token.specs.Token.{Lexeme, lexeme}
use Rattle.gf_token.specs.Token.Token.{Text}
use Rattle.gf_token.specs.TokenSpelling.{IsGap, Spells}
use Rattle.gf_token.proofs.Spelled.{found, text_again}
use Rattle.gf_token.proofs.Steps.{lex_more}

-- the label's bytes stand between two quotes, the first of which is at `start`
record Quotes (bytes : List ℕ) (start : ℕ) (label : List ℕ) : Type 0 where
  within : start + 1 + length label < length bytes
  opens : get_or bytes start 0 ≡ 34
  same : slice_range bytes (start + 1) (start + 1 + length label) ≡ label
  ends : get_or bytes (start + 1 + length label) 0 ≡ 34

-- ---- they are the text

-- this many bytes from a place on, if they are these, and a quote after them
parted : (bytes label : List ℕ) (from : ℕ) → from + length label < length bytes
    → slice_range bytes from (from + length label) ≡ label
    → get_or bytes (from + length label) 0 ≡ 34
    → drop from bytes ≡ label ++ 34 ∷ drop (from + length label + 1) bytes
parted bytes label from within same ends =
    let size : from + length label - from ≡ length label = omega arith in
    let front : take (length label) (drop from bytes) ≡ label =
    ap (λ (n : ℕ). take n (drop from bytes)) (sym size) ∙ same in
    chunk-drop from (length label) bytes
    ∙ ap (λ (x : List ℕ). x ++ drop (from + length label) bytes) front
    ∙ at_drop_more (λ x. label ++ x) bytes (from + length label) 0 within
    ∙ ap (λ (b : ℕ). label ++ b ∷ drop (from + length label + 1) bytes) ends

pub label_found : (bytes label : List ℕ) (start : ℕ)
    → start + 1 + length label < length bytes → get_or bytes start 0 ≡ 34
    → slice_range bytes (start + 1) (start + 1 + length label) ≡ label
    → get_or bytes (start + 1 + length label) 0 ≡ 34 → is_spelling label ≡ true
    → lex Gap start (drop start bytes)
    ≡ lexeme start (start + 1 + length label + 1) (Text label)
    ∷ lex Gap (start + 1 + length label + 1) (drop (start + 1 + length label + 1) bytes)
label_found bytes label start within opens same ends spelled =
    lex_more Gap bytes start (omega (arith, within)) ∙ rw opens
    (ap (lex (InText start 34 []) (start + 1)) (parted bytes label (start + 1) within same ends)
    ∙ text_again label [] (drop (start + 1 + length label + 1) bytes) start (start + 1) 34 spelled)

-- ---- no others are

no_gap : (gap rest : List ℕ) → IsGap gap → is_space (get_or (gap ++ rest) 0 0) ≡ false → gap ≡ []
no_gap [] rest h s = refl
no_gap (b ∷ gap) rest h s = absurd cc

begun : (label : List ℕ) (at : ℕ) (bytes : List ℕ) (ls : List Lexeme) → Spells at bytes ls
    → is_space (get_or bytes 0 0) ≡ false → starts (is_text_of label) ls ≡ true
    → (rest : List ℕ) × (bytes ≡ 34 ∷ (label ++ 34 ∷ rest))
begun label at bytes ls h s is = grind (arith, no_gap, slice_eq-Decides, Decides-eqb, append_assoc)

quoted : (bytes label rest : List ℕ) (start : ℕ) → drop start bytes ≡ 34 ∷ (label ++ 34 ∷ rest)
    → Quotes bytes start label
quoted bytes label rest start is =
    let none : start + 0 ≡ start = omega arith in
    let size : start + 1 + length label - (start + 1) ≡ length label = omega arith in
    let place : start + suc (length label) ≡ start + 1 + length label = omega arith in
    let left = length-drop start bytes in
    let all = ap length is in
    let parts = length-append label (34 ∷ rest) in
    let within : start + 1 + length label < length bytes = omega (arith, left, all, parts) in
    let after : drop (start + 1) bytes ≡ label ++ 34 ∷ rest =
    sym (at_drop_more (drop 1) bytes start 0 (omega (arith, within))) ∙ ap (drop 1) is in
    record {
      within = within;
      opens = grind (arith, get_or, get_or-drop);
      same =
          ap (λ (n : ℕ). take n (drop (start + 1) bytes)) size
          ∙ ap (take (length label)) after ∙ take-append_seam label (34 ∷ rest);
      ends = grind (arith, get_or, get_or-drop, get_or-append_seam);
    }

abbrev pub Unlike : List ℕ → List ℕ → ℕ → Type 0
Unlike bytes label start = starts (is_text_of label) (lex Gap start (drop start bytes)) ≡ false

unlike : (bytes label : List ℕ) (start : ℕ) → is_space (get_or bytes start 0) ≡ false
    → (Quotes bytes start label → ⊥) → Unlike bytes label start
unlike bytes label start s other =
    elim (cases_Bool (starts (is_text_of label) (lex Gap start (drop start bytes)))) [
      | inl is ↦
          let none : start + 0 ≡ start = omega arith in
          let first : is_space (get_or (drop start bytes) 0 0) ≡ false =
          ap is_space (get_or-drop start bytes 0 0 ∙ ap (λ (i : ℕ). get_or bytes i 0) none) ∙ s in
          let begins = begun label start (drop start bytes) (lex Gap start (drop start bytes))
          (found (drop start bytes) start) first is in
          absurd (other (quoted bytes label begins.0 start begins.1))
      | inr none ↦ none
    ]

pub too_short : (bytes label : List ℕ) (start : ℕ) → is_space (get_or bytes start 0) ≡ false
    → length bytes ≤ start + 1 + length label → Unlike bytes label start
too_short bytes label start s short = unlike bytes label start s
    (λ q. let within = q.within in absurd (omega (arith, within, short)))

pub no_quote_before : (bytes label : List ℕ) (start : ℕ) → is_space (get_or bytes start 0) ≡ false
    → (get_or bytes start 0 ≡ 34 → ⊥) → Unlike bytes label start
no_quote_before bytes label start s other = unlike bytes label start s (λ q. other q.opens)

pub no_quote_after : (bytes label : List ℕ) (start : ℕ) → is_space (get_or bytes start 0) ≡ false
    → (get_or bytes (start + 1 + length label) 0 ≡ 34 → ⊥) → Unlike bytes label start
no_quote_after bytes label start s other = unlike bytes label start s (λ q. other q.ends)

pub other_bytes : (bytes label : List ℕ) (start : ℕ) → is_space (get_or bytes start 0) ≡ false
    → (slice_range bytes (start + 1) (start + 1 + length label) ≡ label → ⊥)
    → Unlike bytes label start
other_bytes bytes label start s other = unlike bytes label start s (λ q. other q.same)

pub ruleset label_steps = (label_found, too_short, no_quote_before, no_quote_after, other_bytes)
