-- What the tokens to come begin with.
use Rattle.std.specs.Prelude.{Bool, true, false, ◌||◌, nat_eq, ℕ, List, [], ◌∷◌, codes}
use Rattle.std.specs.Cmp.Lexicographic.{pointwise}
use Rattle.gf_token.specs.Token.{Token, Lexeme}
use Rattle.gf_token.specs.Token.Token.{Opening, Closing, Comma, Text, Bare, Broken}

-- the next token is one of these
abbrev pub starts : (Token → Bool) → List Lexeme → Bool
starts test [] = false
starts test (l ∷ ls) = test l.token

abbrev pub is_opening : Token → Bool
is_opening Opening = true
is_opening _ = false

abbrev pub is_closing : Token → Bool
is_closing Closing = true
is_closing _ = false

abbrev pub is_comma : Token → Bool
is_comma Comma = true
is_comma _ = false

abbrev pub is_text_token : Token → Bool
is_text_token (Text _) = true
is_text_token _ = false

-- a text, or a quote at which none begins
abbrev pub is_quoted : Token → Bool
is_quoted (Text _) = true
is_quoted Broken = true
is_quoted _ = false

abbrev pub is_bare_token : Token → Bool
is_bare_token (Bare _) = true
is_bare_token _ = false

-- an unterminated text
abbrev pub is_broken : Token → Bool
is_broken Broken = true
is_broken _ = false

-- this word
abbrev pub is_word : List ℕ → Token → Bool
is_word word (Bare bytes) = pointwise nat_eq bytes word
is_word word _ = false

-- the letter for how numbers are written
abbrev pub is_letter : Token → Bool
is_letter (Bare bytes) = pointwise nat_eq bytes (codes "R") || pointwise nat_eq bytes (codes "D")
is_letter _ = false

-- the text of this label
abbrev pub is_text_of : List ℕ → Token → Bool
is_text_of label (Text text) = pointwise nat_eq text label
is_text_of label _ = false
