-- What the byte at a place says about the token that begins there.
use Rattle.std.proofs.lemmas.Bool.Decides.{nat_tests}
use Rattle.std.proofs.Common.{arith, ◌≡◌, ℕ, ◌+◌, ◌<◌, Bool, true, false, List, []}
use Rattle.std.proofs.Common.{◌∷◌, ◌++◌, length, get_or, drop}
use Rattle.std.proofs.lemmas.Bool.{cases_eq}
use Rattle.gf_token.specs.Byte.{is_space, is_bare}
use Rattle.gf_token.specs.Token.{Token}
use Rattle.gf_token.specs.Token.Token.{Opening, Closing, Comma, Text, Bare, Broken}
use Rattle.gf_token.specs.inner.Lexing.{lex, single, begins}
use Rattle.gf_token.specs.inner.Lexing.Mode.{Gap, InText, InBare}
use Rattle.gf_token.specs.Next.{starts, is_quoted, is_text_token, is_bare_token, is_opening}
use Rattle.gf_token.specs.Next.{is_closing, is_comma}
use Rattle.gf_token.proofs.Steps.{lex_more, bare_if, opening, closing, comma}

-- what begins with a byte of a bare token is one
pub in_bare : (test : Token → Bool) → ((text : List ℕ) → test (Bare text) ≡ false)
    → (start : ℕ) (text : List ℕ) (at : ℕ) (bytes : List ℕ)
    → starts test (lex (InBare start text) at bytes) ≡ false
unfolding lex
in_bare test none start text at [] = none text
in_bare test none start text at (b ∷ bytes) =
    grind (arith, single, begins, in_bare test none start (text ++ b ∷ []) (at + 1) bytes)

-- what begins with a quote is a text, or broken
pub in_text : (test : Token → Bool) (answer : Bool) → ((text : List ℕ) → test (Text text) ≡ answer)
    → test Broken ≡ answer → (start before : ℕ) (text : List ℕ) (at : ℕ) (bytes : List ℕ)
    → starts test (lex (InText start before text) at bytes) ≡ answer
unfolding lex
in_text test answer whole broken start before text at [] = broken
in_text test answer whole broken start before text at (b ∷ bytes) =
    grind (arith, in_text test answer whole broken start b (text ++ b ∷ []) (at + 1) bytes)

pub quoted : (bytes : List ℕ) (at : ℕ) → at < length bytes → get_or bytes at 0 ≡ 34
    → starts is_quoted (lex Gap at (drop at bytes)) ≡ true
quoted bytes at lt is = grind (arith, lex_more, in_text)

-- A test that the token passes by none of the bytes that it may begin with.
module _ (test : Token → Bool) (bytes : List ℕ) (at : ℕ) (lt : at < length bytes)
    (space : is_space (get_or bytes at 0) ≡ false)
    (bare : is_bare (get_or bytes at 0) ≡ true → (text : List ℕ) → test (Bare text) ≡ false)
    (texts : get_or bytes at 0 ≡ 34 → (text : List ℕ) → test (Text text) ≡ false)
    (broken : get_or bytes at 0 ≡ 34 → test Broken ≡ false)
    (opens : get_or bytes at 0 ≡ 123 → test Opening ≡ false)
    (closes : get_or bytes at 0 ≡ 125 → test Closing ≡ false)
    (comma_out : get_or bytes at 0 ≡ 44 → test Comma ≡ false) where
  pub not_in_front : starts test (lex Gap at (drop at bytes)) ≡ false
  not_in_front = grind (arith, cases_eq, lex_more, in_text, nat_tests, in_bare)

pub no_text : (bytes : List ℕ) (at : ℕ) → at < length bytes → is_space (get_or bytes at 0) ≡ false
    → (get_or bytes at 0 ≡ 34 → ⊥) → starts is_text_token (lex Gap at (drop at bytes)) ≡ false
no_text bytes at lt s q = grind (arith, not_in_front)

pub not_quoted : (bytes : List ℕ) (at : ℕ)
    → at < length bytes → is_space (get_or bytes at 0) ≡ false → (get_or bytes at 0 ≡ 34 → ⊥)
    → starts is_quoted (lex Gap at (drop at bytes)) ≡ false
not_quoted bytes at lt s q = grind (arith, not_in_front)

pub no_bare : (bytes : List ℕ) (at : ℕ)
    → at < length bytes → is_space (get_or bytes at 0) ≡ false → is_bare (get_or bytes at 0) ≡ false
    → starts is_bare_token (lex Gap at (drop at bytes)) ≡ false
no_bare bytes at lt s q = grind (arith, not_in_front)

pub no_opening : (bytes : List ℕ) (at : ℕ)
    → at < length bytes → is_space (get_or bytes at 0) ≡ false → (get_or bytes at 0 ≡ 123 → ⊥)
    → starts is_opening (lex Gap at (drop at bytes)) ≡ false
no_opening bytes at lt s q = grind (arith, not_in_front)

pub no_closing : (bytes : List ℕ) (at : ℕ)
    → at < length bytes → is_space (get_or bytes at 0) ≡ false → (get_or bytes at 0 ≡ 125 → ⊥)
    → starts is_closing (lex Gap at (drop at bytes)) ≡ false
no_closing bytes at lt s q = grind (arith, not_in_front)

pub no_comma : (bytes : List ℕ) (at : ℕ) → at < length bytes → is_space (get_or bytes at 0) ≡ false
    → (get_or bytes at 0 ≡ 44 → ⊥) → starts is_comma (lex Gap at (drop at bytes)) ≡ false
no_comma bytes at lt s q = grind (arith, not_in_front)

pub ruleset starts_steps = (
  quoted,
  not_quoted,
  no_text,
  no_bare,
  no_opening,
  no_closing,
  no_comma,
  opening,
  closing,
  comma,
)
