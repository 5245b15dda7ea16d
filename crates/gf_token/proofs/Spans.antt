-- The span of a token is the slice of the bytes that spells it.
use Rattle.std.proofs.Common.{append_assoc, length, arith, subst, List, refl, ◌++◌, ◌∷◌, ◌≡◌, [], ℕ}
use Rattle.std.proofs.Math.Seq.{drop-append_seam, take-append_seam}
use Rattle.std.proofs.lemmas.List.{length-append}
use Rattle.gf_token.specs.Token.{spelling, Lexeme, Token}
use Rattle.gf_token.specs.Token.Token.{Broken}
use Rattle.gf_token.specs.TokenSpelling.{BeginsWith, GoesOn, Spells}
use Rattle.gf_token.specs.Slices.{StandsIn}

-- a token that comes after the bytes `front`
stands_after : (front bytes : List ℕ) (l : Lexeme) → BeginsWith (length front) bytes l
    → StandsIn (front ++ bytes) l
stands_after front bytes l first =
    grind (
      arith,
      append_assoc front first.gap (spelling l.token ++ first.rest),
      length-append front first.gap,
      length-append (front ++ first.gap) (spelling l.token ++ first.rest),
      length-append (spelling l.token) first.rest,
      drop-append_seam (front ++ first.gap) ((spelling l.token) ++ first.rest),
      take-append_seam (spelling l.token) first.rest,
    )

-- what goes on with a token goes on with what is spelled
goes_on_some : (t : Token) (before after : List Lexeme) (l : Lexeme) (A : Type 0)
    → GoesOn t (before ++ l ∷ after) A → A
goes_on_some Broken [] after l A h = absurd cc
goes_on_some Broken (x ∷ before) after l A h = absurd cc
goes_on_some t before after l A h = h

stands : (before after : List Lexeme) (l : Lexeme) (front bytes : List ℕ) (at : ℕ)
    → at ≡ length front → Spells at bytes (before ++ l ∷ after) → StandsIn (front ++ bytes) l
stands [] after l front bytes at e h =
    stands_after front bytes l (subst (λ (i : ℕ). BeginsWith i bytes l) e h.0)
stands (x ∷ before) after l front bytes at e h =
    let first = h.0 in
    let mid = first.gap ++ spelling x.token in
    let further =
    goes_on_some x.token before after l (Spells x.end first.rest (before ++ l ∷ after)) h.1 in
    let next : x.end ≡ length (front ++ mid) = grind (arith, length-append) in
    let whole : (front ++ mid) ++ first.rest ≡ front ++ bytes = grind (arith, append_assoc) in
    subst (λ (y : List ℕ). StandsIn y l) whole
    (stands before after l (front ++ mid) first.rest x.end next further)

pub stands_in : (bytes : List ℕ) (before after : List Lexeme) (l : Lexeme)
    → Spells 0 bytes (before ++ l ∷ after) → StandsIn bytes l
stands_in bytes before after l h = stands before after l [] bytes 0 refl h
