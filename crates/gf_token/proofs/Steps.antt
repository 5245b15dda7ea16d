-- What the loops over the bytes find, one byte at a time.
use Rattle.std.proofs.Common.{append_assoc, get_or, length, arith, false, List, drop, refl, take, ℕ}
use Rattle.std.proofs.Common.{true, ◌&&◌, ◌++◌, ◌==◌, ◌+◌, ◌-◌, ◌<◌, ◌∙◌, ◌∷◌, ◌≡◌, ◌≤◌, [], ap}
use Rattle.std.specs.Prelude.{slice_range, not}
use Rattle.std.proofs.lemmas.Bool.Decides.{nat_tests}
use Rattle.std.proofs.lemmas.Bool.{cases_lt}
use Rattle.std.proofs.lemmas.List.{at_drop_more, at_drop_all, get_or-drop, length-drop, append-nil}
use Rattle.std.proofs.lemmas.List.{take_more}
use Rattle.gf_token.specs.Byte.{is_space, is_bare}
use Rattle.gf_token.specs.LabelSpelling.{is_spelling_after, is_spelling}
use Rattle.gf_token.specs.Token.{lexeme}
use Rattle.gf_token.specs.Token.Token.{Closing, Opening, Broken, Comma, Bare}
use Rattle.gf_token.specs.inner.Lexing.{begins, after, ended, Mode, last, lex}
use Rattle.gf_token.specs.inner.Finding.{ClosesText}
use Rattle.gf_token.specs.inner.Lexing.Mode.{InBare, InText, Gap}

pub lex_more : (m : Mode) (bytes : List ℕ) (at : ℕ) → at < length bytes → lex m at
    (drop at bytes) ≡ ended m at (get_or bytes at 0) ++ lex (after m at (get_or bytes at 0))
    (at + 1) (drop (at + 1) bytes)
unfolding lex
lex_more m bytes at h = at_drop_more (lex m at) bytes at 0 h

pub lex_all : (m : Mode) (bytes : List ℕ) (at : ℕ) → length bytes ≤ at
    → lex m at (drop at bytes) ≡ last m at
unfolding lex
lex_all m bytes at h = at_drop_all (lex m at) bytes at h

pub gap_more : (bytes : List ℕ) (at : ℕ) → at < length bytes → is_space (get_or bytes at 0) ≡ true
    → lex Gap at (drop at bytes) ≡ lex Gap (at + 1) (drop (at + 1) bytes)
gap_more bytes at h s = grind (arith, lex_more, nat_tests)

pub range_more : (xs : List ℕ) (s at : ℕ) → s ≤ at → at < length xs
    → slice_range xs s (at + 1) ≡ slice_range xs s at ++ get_or xs at 0 ∷ []
range_more xs s at le lt =
    let n : at + 1 - s ≡ at - s + 1 = omega arith in
    let k : s + (at - s) ≡ at = omega arith in
    let m : at - s < length (drop s xs) = omega (arith, length-drop s xs) in
    ap (λ (i : ℕ). take i (drop s xs)) n ∙ take_more (drop s xs) (at - s) 0 m
    ∙ ap (λ (x : ℕ). take (at - s) (drop s xs) ++ x ∷ [])
    (get_or-drop s xs (at - s) 0 ∙ ap (λ (i : ℕ). get_or xs i 0) k)

pub range_none : (xs : List ℕ) (at : ℕ) → slice_range xs at at ≡ []
range_none xs at = let n : at - at ≡ 0 = omega arith in ap (λ (i : ℕ). take i (drop at xs)) n

-- ---- tokens of one byte

pub opening : (bytes : List ℕ) (at : ℕ) → at < length bytes → get_or bytes at 0 ≡ 123 → lex Gap at
    (drop at bytes) ≡ lexeme at (at + 1) Opening ∷ lex Gap (at + 1) (drop (at + 1) bytes)
opening bytes at h s = lex_more Gap bytes at h ∙ rw s refl

pub closing : (bytes : List ℕ) (at : ℕ) → at < length bytes → get_or bytes at 0 ≡ 125 → lex Gap at
    (drop at bytes) ≡ lexeme at (at + 1) Closing ∷ lex Gap (at + 1) (drop (at + 1) bytes)
closing bytes at h s = lex_more Gap bytes at h ∙ rw s refl

pub comma : (bytes : List ℕ) (at : ℕ) → at < length bytes → get_or bytes at 0 ≡ 44 → lex Gap at
    (drop at bytes) ≡ lexeme at (at + 1) Comma ∷ lex Gap (at + 1) (drop (at + 1) bytes)
comma bytes at h s = lex_more Gap bytes at h ∙ rw s refl

-- ---- bare tokens

-- any other byte is one of a bare token
pub bare_if : (b : ℕ) → is_space b ≡ false → (b ≡ 123 → ⊥) → (b ≡ 125 → ⊥) → (b ≡ 44 → ⊥)
    → (b ≡ 34 → ⊥) → is_bare b ≡ true
bare_if b s h i j k = grind (arith, nat_tests)

pub bare_open : (bytes : List ℕ) (at : ℕ) → at < length bytes → is_bare (get_or bytes at 0) ≡ true
    → lex Gap at (drop at bytes) ≡ lex (InBare at (slice_range bytes at (at + 1))) (at + 1)
    (drop (at + 1) bytes)
bare_open bytes at h s = grind (arith, range_more, range_none, lex_more, nat_tests)

pub bare_more : (bytes : List ℕ) (start at : ℕ) → start < at → at < length bytes
    → is_bare (get_or bytes at 0) ≡ true
    → lex (InBare start (slice_range bytes start at)) at (drop at bytes) ≡ lex
    (InBare start (slice_range bytes start (at + 1))) (at + 1) (drop (at + 1) bytes)
bare_more bytes start at lt h s = grind (arith, lex_more, range_more)

pub bare_close : (bytes text : List ℕ) (start at : ℕ)
    → (at < length bytes → is_bare (get_or bytes at 0) ≡ false) → at ≤ length bytes
    → lex (InBare start text) at (drop at bytes) ≡ lexeme start at (Bare text) ∷ lex Gap at
    (drop at bytes)
bare_close bytes text start at s h = grind (arith, cases_lt, lex_more, lex_all)

-- ---- texts

-- the text that begins at `start` is open at `at`
pub record IsOpen (bytes : List ℕ) (start at : ℕ) : Type 0 where
  pub begins : start < at
  pub same : lex Gap start (drop start bytes)
      ≡ lex (InText start (get_or bytes (at - 1) 0) (slice_range bytes (start + 1) at)) at
      (drop at bytes)
  pub spelled : (more : List ℕ) → is_spelling
      (slice_range bytes (start + 1) at ++ more) ≡ is_spelling_after (get_or bytes (at - 1) 0) more

pub opens : (bytes : List ℕ) (start : ℕ) → start < length bytes → get_or bytes start 0 ≡ 34
    → IsOpen bytes start (start + 1)
opens bytes start h s = grind (arith, lex_more, range_none)

-- a byte that closes no text
pub goes_on : (b before : ℕ) (more : List ℕ) → ((b == 34) && not (before == 92)) ≡ false
    → is_spelling_after before (b ∷ more) ≡ is_spelling_after b more
goes_on b before more h = grind (arith, nat_tests)

pub no_close : (b before : ℕ) → (b ≡ 34 → before ≡ 92) → ((b == 34) && not (before == 92)) ≡ false
no_close b before h = grind (arith, nat_tests)

pub stays_open : (bytes : List ℕ) (start at : ℕ) → at < length bytes
    → (get_or bytes at 0 ≡ 34 → get_or bytes (at - 1) 0 ≡ 92) → IsOpen bytes start at
    → IsOpen bytes start (at + 1)
stays_open bytes start at h quote o =
    grind (arith, no_close, range_more, lex_more, append_assoc, goes_on)

pub closes : (bytes : List ℕ) (start at : ℕ) → at < length bytes → get_or bytes at 0 ≡ 34
    → (get_or bytes (at - 1) 0 ≡ 92 → ⊥) → IsOpen bytes start at → ClosesText bytes start at
closes bytes start at h s other o =
    grind (
      arith,
      nat_tests,
      begins,
      append-nil (slice_range bytes (start + 1) at),
      lex_more (InText start (get_or bytes (at - 1) 0) (slice_range bytes (start + 1) at)) bytes,
    )

pub breaks : (bytes : List ℕ) (start at : ℕ) → length bytes ≤ at → IsOpen bytes start at
    → lex Gap start (drop start bytes) ≡ lexeme start (start + 1) Broken ∷ []
breaks bytes start at h o = grind (arith, lex_all)

-- ---- what each loop and call uses

pub ruleset gap_steps = (gap_more, lex_all)

pub ruleset bare_steps = (bare_open, bare_more, bare_close)

pub ruleset text_steps = (opens, stays_open, closes, breaks)

pub ruleset token_steps = (opening, closing, comma, bare_if)
