-- Where the profiles pass their limit, by the files that begin with the tokens through a place. A
-- law says that this is the limit place.
use Rattle.std.specs.Prelude.{◌≡◌, ℕ, ◌<◌, List, [], ◌∷◌, ◌++◌, length}
use Rattle.gf_token.specs.Token.{Token, Lexeme}
use Rattle.gf_token.specs.Token.Token.{Closing, Bare}
use Rattle.gf_token.specs.TokenSpelling.{Spells}
use Rattle.gf_token.specs.Place.{tokens_of, Begins}
use Rattle.gf_token.specs.declared.fault.Span.{Span}
use Rattle.gf_nfg.specs.Limit.{IsWithinLimit, profile_limit}
use Rattle.gf_nfg.specs.Table.{Table}
use Rattle.gf_nfg.specs.Sentence.{Sentence, IsStrategicFile}

-- some file within the limit begins with these tokens
abbrev pub BeginsWithinLimit : List Token → Type 0
BeginsWithinLimit tokens =
    (more : List Token) × (t : Table) × Sentence (tokens ++ more) t × IsWithinLimit t

-- files begin with these tokens, all of them past the limit
pub record BeginsPastLimit (tokens : List Token) : Type 0 where
  pub begins : Begins IsStrategicFile tokens
  pub past : (more : List Token) (t : Table) → Sentence (tokens ++ more) t
      → profile_limit < length t.entries

-- a count, which is a bare token, or the closing brace of a list: only there the number of profiles
-- grows
abbrev pub IsBareOrClosing : Token → Type 0
IsBareOrClosing (Bare bytes) = Unit {0}
IsBareOrClosing Closing = Unit {0}
IsBareOrClosing _ = ⊥

-- the profiles pass their limit at none of these tokens
abbrev pub StaysWithinLimit : List Token → Type 0
StaysWithinLimit tokens = (front back : List Token) (token : Token)
    → tokens ≡ front ++ token ∷ back → IsBareOrClosing token
    → BeginsWithinLimit (front ++ token ∷ [])

-- The span is that of the first count or closing brace such that files begin with the tokens
-- through it, all of them past the limit.
pub record IsLimitByFiles (bytes : List ℕ) (span : Span) : Type 0 where
  pub before : List Lexeme
  pub lexeme : Lexeme
  pub after : List Lexeme
  pub spelled : Spells 0 bytes (before ++ lexeme ∷ after)
  pub place : (span.start ≡ lexeme.start) × (span.end ≡ lexeme.end)
  pub grows : IsBareOrClosing lexeme.token
  pub past : BeginsPastLimit (tokens_of before ++ lexeme.token ∷ [])
  pub first : StaysWithinLimit (tokens_of before)
