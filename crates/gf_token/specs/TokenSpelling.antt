-- Which bytes spell which tokens.
use Rattle.std.specs.Prelude.{length, false, true, List, ◌++◌, ◌≡◌, ◌+◌, ◌∷◌, [], ℕ}
use Rattle.std.specs.List.{AllByRecursion}
use Rattle.gf_token.specs.Byte.{is_space, is_bare}
use Rattle.gf_token.specs.LabelSpelling.{is_spelling}
use Rattle.gf_token.specs.Token.{Token, Lexeme, spelling}
use Rattle.gf_token.specs.Token.Token.{Text, Bare, Broken}

abbrev pub IsGap : List ℕ → Type 0
IsGap bytes = AllByRecursion (λ b. is_space b ≡ true) bytes

-- what the bytes of a token may be
abbrev pub IsSpelled : Token → Type 0
IsSpelled (Text label) = is_spelling label ≡ true
IsSpelled (Bare []) = ⊥
IsSpelled (Bare (b ∷ bytes)) = AllByRecursion (λ x. is_bare x ≡ true) (b ∷ bytes)
IsSpelled _ = Unit {0}

-- no text begins with a quote and these bytes: they do not begin with a label that a quote closes
abbrev pub BeginsNoText : List ℕ → Type 0
BeginsNoText bytes =
    (label rest : List ℕ) → is_spelling label ≡ true → bytes ≡ label ++ 34 ∷ rest → ⊥

-- which bytes may directly follow a token: after a bare token, not a byte of a bare token; after
-- the quote of a broken text, none that make it a text
abbrev pub MayPrecede : Token → List ℕ → Type 0
MayPrecede (Bare _) (b ∷ bytes) = is_bare b ≡ false
MayPrecede Broken bytes = BeginsNoText bytes
MayPrecede _ _ = Unit {0}

-- from place `at` on, the bytes are a gap of whitespace, this token, and a rest
pub record BeginsWith (at : ℕ) (bytes : List ℕ) (l : Lexeme) : Type 0 where
  pub gap : List ℕ
  pub rest : List ℕ
  pub parts : bytes ≡ gap ++ (spelling l.token ++ rest)
  pub is_gap : IsGap gap
  pub is_spelled : IsSpelled l.token
  pub may_precede : MayPrecede l.token rest
  pub start : l.start ≡ at + length gap
  pub end : l.end ≡ l.start + length (spelling l.token)

-- which tokens may follow a token: none after a broken text, and otherwise those that the rest
-- spells
abbrev pub GoesOn : Token → List Lexeme → Type 0 → Type 0
GoesOn Broken others spelled = others ≡ []
GoesOn _ others spelled = spelled

-- from place `at` on, the bytes are gaps of whitespace and spellings of these tokens in turn
abbrev pub Spells : ℕ → List ℕ → List Lexeme → Type 0
Spells at bytes [] = IsGap bytes
Spells at bytes (l ∷ ls) =
    (first : BeginsWith at bytes l) × GoesOn l.token ls (Spells l.end first.rest ls)
