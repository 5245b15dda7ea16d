-- What both formats have in common: groups of tokens, lists in braces, the comment, and the payoffs
-- of an outcome.
use Rattle.std.specs.Prelude.{◌≡◌, ℕ, ◌⊎◌, List, [], ◌∷◌, ◌++◌}
use Rattle.gf_fraction.specs.Ratio.{Ratio}
use Rattle.gf_fraction.specs.NumberSpelling.{IsNumber}
use Rattle.gf_token.specs.Token.{Token}
use Rattle.gf_token.specs.Token.Token.{Opening, Closing, Comma, Text, Bare}

-- tokens in groups, one after another, a group for each of these values
abbrev pub Each : {A : Type 0} → (List Token → A → Type 0) → List Token → List A → Type 0
Each P tokens [] = tokens ≡ []
Each P tokens (x ∷ xs) =
    (first : List Token) × (others : List Token) × (tokens ≡ first ++ others) × P first x
    × Each P others xs

-- Opening tokens Closing
abbrev pub braced : List Token → List Token
braced tokens = Opening ∷ (tokens ++ Closing ∷ [])

-- [Text]: an absent comment is the empty one
abbrev pub IsComment : List Token → List ℕ → Type 0
IsComment tokens comment = ((tokens ≡ []) × (comment ≡ [])) ⊎ (tokens ≡ Text comment ∷ [])

-- a number in braces: one comma may follow it
abbrev pub IsPayoffInBraces : List Token → Ratio → Type 0
IsPayoffInBraces tokens number =
    (bytes : List ℕ) × (comma : List Token) × (tokens ≡ Bare bytes ∷ comma) × IsNumber bytes number
    × ((comma ≡ []) ⊎ (comma ≡ Comma ∷ []))
