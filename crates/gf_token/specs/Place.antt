-- Where a file is refused, whatever its format: a language says which lists of tokens are files.
use Rattle.std.specs.Prelude.{◌≡◌, ℕ, List, [], ◌∷◌, ◌++◌, length, map}
use Rattle.gf_token.specs.Token.{Token, Lexeme}
use Rattle.gf_token.specs.TokenSpelling.{Spells}
use Rattle.gf_token.specs.declared.fault.Span.{Span}

abbrev pub tokens_of : List Lexeme → List Token
tokens_of lexemes = map (λ l. l.token) lexemes

-- the span of the first of these tokens; or the end of this many bytes, if there is none
abbrev pub IsSpanOf : List Lexeme → ℕ → Span → Type 0
IsSpanOf [] size span = (span.start ≡ size) × (span.end ≡ size)
IsSpanOf (l ∷ ls) size span = (span.start ≡ l.start) × (span.end ≡ l.end)

-- for a language
module _ (IsFile : List Token → Type 0) where
  -- some file begins with these tokens
  abbrev pub Begins : List Token → Type 0
  Begins tokens = (more : List Token) × IsFile (tokens ++ more)

  -- some file begins with the tokens followed by this one
  abbrev pub MayFollow : List Token → Token → Type 0
  MayFollow before token = Begins (before ++ token ∷ [])

  -- after the tokens before a place, some file goes on with the one that stands there; at the end,
  -- the tokens are a file
  abbrev pub IsAccepted : List Token → List Token → Type 0
  IsAccepted before [] = IsFile before
  IsAccepted before (token ∷ after) = MayFollow before token

  -- the span is that of the first token with which no file goes on; or it is the end, if some file
  -- begins with all tokens, but they are not a file themselves
  pub record IsOffendingPlace (bytes : List ℕ) (span : Span) : Type 0 where
    pub before : List Lexeme
    pub after : List Lexeme
    pub spelled : Spells 0 bytes (before ++ after)
    pub place : IsSpanOf after (length bytes) span
    pub begins : Begins (tokens_of before)
    pub refused : ¬ (IsAccepted (tokens_of before) (tokens_of after))

  -- the span is that of a token, or of the end, at which there is nothing to refuse
  pub record IsAcceptedThrough (bytes : List ℕ) (span : Span) : Type 0 where
    pub before : List Lexeme
    pub after : List Lexeme
    pub spelled : Spells 0 bytes (before ++ after)
    pub place : IsSpanOf after (length bytes) span
    pub accepted : IsAccepted (tokens_of before) (tokens_of after)
