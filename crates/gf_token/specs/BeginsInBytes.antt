-- That some bytes spell a file that begins with given tokens, whatever its format. Laws say that
-- for tokens that can be spelled it is the same to say that some list of tokens is such a file.
use Rattle.std.specs.Prelude.{◌≡◌, ℕ, List, ◌++◌}
use Rattle.gf_token.specs.Place.{tokens_of}
use Rattle.gf_token.specs.Token.{Token, Lexeme}
use Rattle.gf_token.specs.TokenSpelling.{Spells}

-- some bytes spell these tokens
abbrev pub AreSpelled : List Token → Type 0
AreSpelled tokens = (bytes : List ℕ) × (lexemes : List Lexeme) × Spells 0 bytes lexemes
    × (tokens_of lexemes ≡ tokens)

-- some bytes spell a file of the language that begins with these tokens
abbrev pub BeginsInBytes : (List Token → Type 0) → List Token → Type 0
BeginsInBytes IsFile tokens =
    (more : List Token) × IsFile (tokens ++ more) × AreSpelled (tokens ++ more)
