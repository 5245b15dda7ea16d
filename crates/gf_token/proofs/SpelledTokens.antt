-- Each of the tokens that bytes spell can be spelled.
use Rattle.std.proofs.Common.{arith, ℕ, List, [], ◌∷◌, ◌++◌, map}
use Rattle.std.specs.List.{AllByRecursion}
use Rattle.gf_fraction.proofs.Offered.{all_parts}
use Rattle.gf_token.specs.Token.{Token, Lexeme}
use Rattle.gf_token.specs.Token.Token.{Closing}
use Rattle.gf_token.specs.LabelSpelling.{IsLabel}
use Rattle.gf_token.specs.TokenSpelling.{IsSpelled, Spells}
use Rattle.gf_token.specs.Grammar.{braced, IsComment}

abbrev pub AllSpelled : List Token → Type 0
AllSpelled tokens = AllByRecursion IsSpelled tokens

pub all_spelled : (ls : List Lexeme) (at : ℕ) (bytes : List ℕ) → Spells at bytes ls
    → AllSpelled (map (λ l. l.token) ls)
all_spelled [] at bytes h = tt
all_spelled (l ∷ ls) at bytes h = grind (arith, all_spelled ls l.end h.0.rest)

-- what stands between braces is spelled, and what comes after them
pub braced_spelled : (inner rest : List Token) → AllSpelled (braced inner ++ rest)
    → AllSpelled inner × AllSpelled rest
braced_spelled inner rest h =
    let k = all_parts IsSpelled (inner ++ Closing ∷ []) rest h.1 in
    ((all_parts IsSpelled inner (Closing ∷ []) k.0).0, k.1)

pub comment_spelled : (tokens : List Token) (comment : List ℕ) → IsComment tokens comment
    → AllSpelled tokens → IsLabel comment
comment_spelled tokens comment h all = grind arith
