-- Which lists of tokens are extensive files, and what each of them says.
use Rattle.std.specs.Prelude.{◌≡◌, ℕ, zero, suc, ◌⊎◌, List, [], ◌∷◌, ◌++◌, length, map, codes}
use Rattle.std.specs.Prelude.{Option, Some, None}
use Rattle.gf_fraction.specs.Ratio.{Ratio}
use Rattle.gf_fraction.specs.NumberSpelling.{IsNumber}
use Rattle.gf_token.specs.Token.{Token}
use Rattle.gf_token.specs.Token.Token.{Text, Bare}
use Rattle.gf_token.specs.Index.{IsIndex, IsPositive}
use Rattle.gf_token.specs.Grammar.{Each, braced, IsComment, IsPayoffInBraces}
use Rattle.gf_tree.specs.PrefixOrder.{flatten}
use Rattle.gf_tree.specs.FileTree.{Use, FileNode, FileTree}
use Rattle.gf_tree.specs.Description.{Action, InformationSet, Outcome, SetKey}

-- [Text Opening .. Closing]: a description, or none
abbrev pub IsDescription : {D : Type 0} → (List Token → D → Type 0) → List Token → Option D → Type 0
IsDescription P tokens None = tokens ≡ []
IsDescription P tokens (Some d) = P tokens d

-- Text number if chance moves, and Text if a player moves
abbrev pub IsAction : ℕ → List Token → Action → Type 0
IsAction zero tokens a = (bytes : List ℕ) × (p : Ratio) × (tokens ≡ Text a.label ∷ Bare bytes ∷ [])
    × IsNumber bytes p × (a.probability ≡ Some p)
IsAction (suc player) tokens a = (tokens ≡ Text a.label ∷ []) × (a.probability ≡ None)

-- Text Opening action* Closing
abbrev pub IsInformationSet : ℕ → List Token → InformationSet → Type 0
IsInformationSet player tokens set = (inner : List Token) × (tokens ≡ Text set.name ∷ braced inner)
    × Each (IsAction player) inner set.actions

-- chance moves at `c`, and another player at `p`, which has their number after the node's name
abbrev pub SpellsMover : List ℕ → List Token → ℕ → Type 0
SpellsMover letter tokens zero = (letter ≡ codes "c") × (tokens ≡ [])
SpellsMover letter tokens (suc player) = (bytes : List ℕ) × (letter ≡ codes "p")
    × (tokens ≡ Bare bytes ∷ []) × IsIndex bytes (suc player)

-- nothing at `t`; otherwise the player, and the number and the description of their set
abbrev pub IsStep : List ℕ → List Token → Option (Use SetKey InformationSet) → Type 0
IsStep letter tokens None = (letter ≡ codes "t") × (tokens ≡ [])
IsStep letter tokens (Some u) =
    (player : List Token) × (number : List ℕ) × (description : List Token)
    × (tokens ≡ player ++ Bare number ∷ description)
    × SpellsMover letter player u.key.player × IsPositive number u.key.number
    × IsDescription (IsInformationSet u.key.player) description u.description

-- Text Opening payoffs Closing, a payoff for each player
abbrev pub IsOutcomeDescription : ℕ → List Token → Outcome → Type 0
IsOutcomeDescription players tokens outcome =
    (inner : List Token) × (tokens ≡ Text outcome.name ∷ braced inner)
    × Each IsPayoffInBraces inner outcome.payoffs × (length outcome.payoffs ≡ players)

-- only the number 0; otherwise the number and the description of the outcome
abbrev pub IsResult : ℕ → List Token → Option (Use ℕ Outcome) → Type 0
IsResult players tokens None = (bytes : List ℕ) × (tokens ≡ Bare bytes ∷ []) × IsIndex bytes 0
IsResult players tokens (Some u) =
    (number : List ℕ) × (description : List Token)
    × (tokens ≡ Bare number ∷ description) × IsPositive number u.key
    × IsDescription (IsOutcomeDescription players) description u.description

-- letter Text step result
pub record IsNode (players : ℕ) (tokens : List Token) (n : FileNode) : Type 0 where
  pub letter : List ℕ
  pub step : List Token
  pub result : List Token
  pub parts : tokens ≡ Bare letter ∷ Text n.name ∷ (step ++ result)
  pub is_step : IsStep letter step n.set
  pub is_result : IsResult players result n.outcome

-- `EFG` `2` letter Text players [Text] node*: a heading, and whole nodes one after another
pub record Says (title note : List ℕ) (players : List (List ℕ)) (said : List FileNode)
    (tokens : List Token) : Type 0 where
  pub letter : List ℕ
  pub comment : List Token
  pub nodes : List Token
  pub parts : tokens ≡ Bare (codes "EFG") ∷ Bare (codes "2") ∷ Bare letter ∷ Text title
      ∷ (braced (map Text players) ++ (comment ++ nodes))
  pub is_letter : (letter ≡ codes "R") ⊎ (letter ≡ codes "D")
  pub is_comment : IsComment comment note
  pub are_nodes : Each (IsNode (length players)) nodes said

-- the nodes are those of a tree in prefix order
abbrev pub Sentence : List Token → FileTree → Type 0
Sentence tokens f = Says f.title f.comment f.players (map (λ e. e.node) (flatten f.tree)) tokens
