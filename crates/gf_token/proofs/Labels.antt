-- The spellings of labels, in terms of their quotes and their last byte.
use Rattle.std.proofs.Common.{◌≡◌, ℕ, true, ◌==◌, ◌||◌, List, [], ◌∷◌, ◌++◌, refl, ap, ◌∙◌, arith}
use Rattle.std.proofs.Common.{IsTrue, ◌↔◌}
use Rattle.std.specs.Prelude.{not}
use Rattle.std.proofs.lemmas.Bool.{and_parts}
use Rattle.std.proofs.lemmas.Bool.Decides.{nat_tests}
use Rattle.gf_token.specs.LabelSpelling.{is_spelling, is_spelling_after}
use Rattle.gf_token.specs.EscapedQuotes.{EndsInBackslash, EscapesQuotes}

-- the last of the bytes after one
last_of : ℕ → List ℕ → ℕ
last_of before [] = before
last_of before (b ∷ bytes) = last_of b bytes

quotes_escaped : (bytes front back : List ℕ) (before : ℕ) → is_spelling_after before bytes ≡ true
    → bytes ≡ front ++ 34 ∷ back → last_of before front ≡ 92
unfolding last_of
quotes_escaped [] [] back before h e = absurd cc
quotes_escaped [] (c ∷ front) back before h e = absurd cc
quotes_escaped (b ∷ bytes) [] back before h e = grind arith
quotes_escaped (b ∷ bytes) (c ∷ front) back before h e =
    cc (quotes_escaped bytes front back b (and_parts (not (b == 34) || before == 92)
    (is_spelling_after b bytes) h).1 cc)

last_not_escape : (bytes : List ℕ) (before : ℕ) → is_spelling_after before bytes ≡ true
    → last_of before bytes ≡ 92 → ⊥
unfolding last_of
last_not_escape [] before h e = grind (arith, nat_tests)
last_not_escape (b ∷ bytes) before h e =
    last_not_escape bytes b
    (and_parts (not (b == 34) || before == 92) (is_spelling_after b bytes) h).1 e

spelling_back : (bytes : List ℕ) (before : ℕ)
    → ((front back : List ℕ) → bytes ≡ front ++ 34 ∷ back → last_of before front ≡ 92)
    → (last_of before bytes ≡ 92 → ⊥) → is_spelling_after before bytes ≡ true
unfolding last_of
spelling_back [] before quotes last = grind (arith, nat_tests)
spelling_back (b ∷ bytes) before quotes last =
    let rest =
    spelling_back bytes b
    (λ front back e. quotes (b ∷ front) back (ap (λ (x : List ℕ). b ∷ x) e)) last in
    let first : b ≡ 34 → before ≡ 92 = λ quote. quotes [] bytes (ap (λ (x : ℕ). x ∷ bytes) quote) in
    grind (arith, nat_tests)

front_and_last : (bytes : List ℕ) (b : ℕ)
    → (front : List ℕ) × (b ∷ bytes ≡ front ++ last_of b bytes ∷ [])
unfolding last_of
front_and_last [] b = ([], refl)
front_and_last (c ∷ bytes) b =
    let parts = front_and_last bytes c in
    (b ∷ parts.0, ap (λ (x : List ℕ). b ∷ x) parts.1)

-- the last byte is a backslash
ends : (bytes : List ℕ) (before : ℕ) → (before ≡ 92 → ⊥) → last_of before bytes ≡ 92
    → EndsInBackslash bytes
unfolding last_of
ends [] before other e = absurd (other e)
ends (b ∷ bytes) before other e = grind (arith, front_and_last bytes b)

ends_back : (front : List ℕ) (before : ℕ) → last_of before (front ++ 92 ∷ []) ≡ 92
unfolding last_of
ends_back [] before = refl
ends_back (b ∷ front) before = ends_back front b

pub said_of_quotes : (bytes : List ℕ)
    → IsTrue (is_spelling bytes) ↔ (EscapesQuotes bytes × ¬ (EndsInBackslash bytes))
said_of_quotes bytes = (
  λ h. (
    λ front back e. ends front 34 (omega arith)
        (quotes_escaped bytes front back 34 h e),
    λ w. last_not_escape bytes 34 h
        (ap (last_of 34) w.1 ∙ ends_back w.0 34),
  ),
  λ w. spelling_back bytes 34
      (λ front back e. let k = w.0 front back e in ap (last_of 34) k.1 ∙ ends_back k.0 34)
      (λ e. w.1 (ends bytes 34 (omega arith) e)),
)
