-- Tokens, and the bytes that each is spelled by.
use Rattle.std.specs.Prelude.{ℕ, List, [], ◌∷◌, ◌++◌}

-- A text holds the spelling of its label. `Broken` is a `"` at which no text begins: no sentence of
-- a grammar contains it.
pub data Token : Type 0 where
  Opening : Token
  Closing : Token
  Comma : Token
  Text : List ℕ → Token
  Bare : List ℕ → Token
  Broken : Token

-- a token and its span: its first byte, and one past its last, counted from 0
pub record Lexeme : Type 0 where
  pub start : ℕ
  pub end : ℕ
  pub token : Token

abbrev pub lexeme : ℕ → ℕ → Token → Lexeme
lexeme start end token = record { start = start; end = end; token = token }

-- the bytes that a token is spelled by
abbrev pub spelling : Token → List ℕ
spelling Opening = 123 ∷ []
spelling Closing = 125 ∷ []
spelling Comma = 44 ∷ []
spelling (Text label) = 34 ∷ (label ++ 34 ∷ [])
spelling (Bare bytes) = bytes
spelling Broken = 34 ∷ []
