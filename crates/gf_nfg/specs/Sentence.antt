-- Which lists of tokens are strategic files, and the table that each of them means.
use Rattle.std.specs.Prelude.{◌≡◌, ℕ, zero, suc, ◌⊎◌, List, [], ◌∷◌, ◌++◌, length, map, codes}
use Rattle.std.specs.Prelude.{decimal, Some, slice_get, replicate, pos}
use Rattle.gf_token.specs.Token.{Token}
use Rattle.gf_token.specs.Token.Token.{Text, Bare}
use Rattle.gf_token.specs.Index.{IsIndex}
use Rattle.gf_token.specs.Grammar.{Each, braced, IsComment, IsPayoffInBraces}
use Rattle.gf_fraction.specs.Ratio.{Ratio, whole}
use Rattle.gf_fraction.specs.NumberSpelling.{IsNumber}
use Rattle.gf_nfg.specs.Profiles.{positions}
use Rattle.gf_nfg.specs.Table.{Table, IsTable, rows}

-- the labels "1" to n
abbrev pub counted_labels : ℕ → List (List ℕ)
counted_labels n = map decimal (positions n)

-- a count of n stands for the labels "1" to n; `IsTable` says that it is positive
abbrev pub IsCount : List Token → List (List ℕ) → Type 0
IsCount tokens labels = (bytes : List ℕ) × (n : ℕ) × (tokens ≡ Bare bytes ∷ []) × IsIndex bytes n
    × (labels ≡ counted_labels n)

-- Opening Text* Closing
abbrev pub IsLabelList : List Token → List (List ℕ) → Type 0
IsLabelList tokens labels = tokens ≡ braced (map Text labels)

-- the strategies of the players: a list of counts in braces, or a list of lists of labels
abbrev pub IsStrategies : List Token → List (List (List ℕ)) → Type 0
IsStrategies tokens strategies = (inner : List Token) × (tokens ≡ braced inner)
    × (Each IsCount inner strategies ⊎ Each IsLabelList inner strategies)

-- a number by itself
abbrev pub IsPayoff : List Token → Ratio → Type 0
IsPayoff tokens number = (bytes : List ℕ) × (tokens ≡ Bare bytes ∷ []) × IsNumber bytes number

-- Opening Text payoffs Closing
abbrev pub IsOutcomeInBraces : ℕ → List Token → List Ratio → Type 0
IsOutcomeInBraces players tokens payoffs =
    (name : List ℕ) × (inner : List Token) × (tokens ≡ braced (Text name ∷ inner))
    × Each IsPayoffInBraces inner payoffs × (length payoffs ≡ players)

-- what outcome number k pays: outcomes are numbered from 1 in their order, and 0, the null outcome,
-- pays every player zero
abbrev pub Pays : ℕ → List (List Ratio) → ℕ → List Ratio → Type 0
Pays players outcomes zero payoffs = payoffs ≡ replicate players (whole (pos 0))
Pays players outcomes (suc k) payoffs = slice_get outcomes k ≡ Some payoffs

-- an outcome number
abbrev pub IsOutcomeNumber : ℕ → List (List Ratio) → List Token → List Ratio → Type 0
IsOutcomeNumber players outcomes tokens payoffs = (bytes : List ℕ) × (k : ℕ)
    × (tokens ≡ Bare bytes ∷ []) × IsIndex bytes k × Pays players outcomes k payoffs

-- the body of the payoff version: the payoffs at each profile in turn
abbrev pub IsPayoffBody : List Token → List (List Ratio) → Type 0
IsPayoffBody tokens rows = Each (Each IsPayoff) tokens rows

-- the body of the outcome version: the outcomes in braces, and the number of one for each profile
-- in turn
pub record IsOutcomeBody (players : ℕ) (tokens : List Token) (rows : List (List Ratio))
    : Type 0 where
  pub list : List Token
  pub numbers : List Token
  pub outcomes : List (List Ratio)
  pub parts : tokens ≡ braced list ++ numbers
  pub listed : Each (IsOutcomeInBraces players) list outcomes
  pub chosen : Each (IsOutcomeNumber players outcomes) numbers rows

-- `NFG` `1` letter Text players strategies [Text] body
pub record Sentence (tokens : List Token) (t : Table) : Type 0 where
  pub letter : List ℕ
  pub strategies : List Token
  pub comment : List Token
  pub body : List Token
  pub parts : tokens ≡ Bare (codes "NFG") ∷ Bare (codes "1") ∷ Bare letter ∷ Text t.title
      ∷ (braced (map Text t.players) ++ (strategies ++ (comment ++ body)))
  pub is_letter : (letter ≡ codes "R") ⊎ (letter ≡ codes "D")
  pub is_strategies : IsStrategies strategies t.strategies
  pub is_comment : IsComment comment t.comment
  pub is_body : IsPayoffBody body (rows t) ⊎ IsOutcomeBody (length t.players) body (rows t)
  pub is_table : IsTable t

-- the language of strategic files
abbrev pub IsStrategicFile : List Token → Type 0
IsStrategicFile tokens = (t : Table) × Sentence tokens t
