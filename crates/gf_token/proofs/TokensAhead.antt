-- What is known about the tokens of an input that are still to come.
use Rattle.std.proofs.Common.{◌≡◌, ◌<◌, ◌≤◌, ◌+◌, ℕ, List, [], ◌∷◌, ◌++◌, length}
use Rattle.std.proofs.Common.{ap, subst, append_assoc, arith, zero-add}
use Rattle.std.proofs.lemmas.List.{length-append}
use Rattle.gf_token.specs.inner.Finding.{lexed}
use Rattle.gf_token.specs.Remaining.{AreAhead, AreInOrder, StandsBefore}
use Rattle.gf_token.specs.Token.{Token, Lexeme, lexeme, spelling}
use Rattle.gf_token.specs.Token.Token.{Opening, Closing, Comma, Text, Bare, Broken}
use Rattle.gf_token.specs.TokenSpelling.{GoesOn, Spells}
use Rattle.gf_token.proofs.Spelled.{found}

-- ---- tokens stand in their order

pub in_order : (from : ℕ) (bytes : List ℕ) (ls : List Lexeme) → Spells from bytes ls
    → AreInOrder (from + length bytes) from ls
in_order from bytes [] h = omega arith
in_order from bytes (l ∷ ls) h =
    let first = h.0 in
    let some : 0 < length (spelling l.token) = grind arith in
    let start = first.start in
    let end = first.end in
    let size = ap length first.parts in
    let all = length-append first.gap (spelling l.token ++ first.rest) in
    let last = length-append (spelling l.token) first.rest in
    let whole : l.end + length first.rest ≡ from + length bytes =
    omega (arith, start, end, size, all, last) in (
      omega (arith, start),
      omega (arith, end, some),
      subst (λ (n : ℕ). AreInOrder n l.end ls) whole
          (given l.token ls l.end first.rest h.1 (λ k. in_order l.end first.rest ls k)),
    )
  where
    given : (t : Token) (ls : List Lexeme) (end : ℕ) (rest : List ℕ)
        → GoesOn t ls (Spells end rest ls)
        → (Spells end rest ls → AreInOrder (end + length rest) end ls)
        → AreInOrder (end + length rest) end ls
    given Broken ls end rest h later = rw h (omega arith)
    given Opening ls end rest h later = later h
    given Closing ls end rest h later = later h
    given Comma ls end rest h later = later h
    given (Text label) ls end rest h later = later h
    given (Bare bytes) ls end rest h later = later h

pub all_in_order : (bytes : List ℕ) (ls : List Lexeme) → Spells 0 bytes ls
    → AreInOrder (length bytes) 0 ls
all_in_order bytes ls h = rw zero-add at (in_order 0 bytes ls h)

-- ---- a token is taken

pub past_first : (end from : ℕ) (before : List Lexeme) (l : Lexeme) (ls : List Lexeme)
    → AreInOrder end from (before ++ l ∷ ls) → (l.start < l.end) × AreInOrder end l.end ls
past_first end from [] l ls h = (h.1, h.2)
past_first end from (z ∷ zs) l ls h = past_first end z.end zs l ls h.2

module _ (input : List ℕ) (at start end : ℕ) (token : Token)
    (known : AreAhead input (lexed input at))
    (next : lexed input at ≡ lexeme start end token ∷ lexed input end) where
  abbrev all : List Lexeme
  all = known.given ++ lexeme start end token ∷ lexed input end

  spelled : Spells 0 input all
  spelled = subst (λ (ls : List Lexeme). Spells 0 input (known.given ++ ls)) next known.spelled

  pub ahead_after : AreAhead input (lexed input end)
  ahead_after = record {
    given = known.given ++ lexeme start end token ∷ [];
    spelled = grind (arith, append_assoc, spelled);
  }

  pub stands_before : StandsBefore (record { input = input; ahead = lexed input end })
      (record { start = start; end = end })
  stands_before = grind (arith, past_first, in_order, spelled)

pub ruleset taken = (ahead_after, stands_before)

pub all_ahead : (input : List ℕ) (ls : List Lexeme) → Spells 0 input ls → AreAhead input ls
all_ahead input ls h = record { given = []; spelled = h }

-- each token has a byte at least
few_in_order : (end from : ℕ) (ls : List Lexeme) → AreInOrder end from ls → from + length ls ≤ end
few_in_order end from [] h = omega (arith, h)
few_in_order end from (l ∷ ls) h = grind (arith, few_in_order end l.end ls h.2)

pub few_ahead : (input : List ℕ) (ls : List Lexeme) → Spells 0 input ls → length ls ≤ length input
few_ahead input ls h = let few = few_in_order _ 0 ls (all_in_order input ls h) in omega (arith, few)

pub ruleset tokens_steps = (found, all_ahead, few_ahead)
