-- An input with the tokens that are still to come, and the place of a token that was taken.
use Rattle.std.specs.Prelude.{◌≡◌, ◌<◌, ◌≤◌, ℕ, Bool, true, false, List, [], ◌∷◌, ◌++◌, length}
use Rattle.std.specs.Prelude.{if◌then◌else◌}
use Rattle.gf_token.specs.Next.{is_broken, starts}
use Rattle.gf_token.specs.Place.{IsSpanOf}
use Rattle.gf_token.specs.Token.{Token, Lexeme, lexeme}
use Rattle.gf_token.specs.TokenSpelling.{Spells}
use Rattle.gf_token.specs.declared.fault.Fault.{Fault}
use Rattle.gf_token.specs.declared.fault.Span.{Span}
use Rattle.gf_token.specs.declared.fault.Why.{Why}

pub record Remaining : Type 0 where
  pub input : List ℕ
  pub ahead : List Lexeme

-- after some tokens, the input spells these
pub record AreAhead (input : List ℕ) (ahead : List Lexeme) : Type 0 where
  pub given : List Lexeme
  pub spelled : Spells 0 input (given ++ ahead)

-- the span of a token of the input, or of its end
abbrev pub IsPlaceIn : List ℕ → Span → Type 0
IsPlaceIn input span = (before : List Lexeme) × (after : List Lexeme)
    × Spells 0 input (before ++ after) × IsSpanOf after (length input) span

-- tokens in their order from a byte on, in an input of this many bytes
abbrev pub AreInOrder : ℕ → ℕ → List Lexeme → Type 0
AreInOrder end from [] = from ≤ end
AreInOrder end from (l ∷ ls) = (from ≤ l.start) × (l.start < l.end) × AreInOrder end l.end ls

-- a token of the input stands there, and those ahead come after it
pub record StandsBefore (remaining : Remaining) (span : Span) : Type 0 where
  pub place : IsPlaceIn remaining.input span
  pub some : span.start < span.end
  pub order : AreInOrder (length remaining.input) span.end remaining.ahead

-- the next token passes the test, and is taken
pub record Takes (test : Token → Bool) (old new : Remaining) : Type 0 where
  pub token : Token
  pub start : ℕ
  pub end : ℕ
  pub parts : old ≡ record new { ahead = lexeme start end token ∷ new.ahead }
  pub passes : test token ≡ true

-- ---- a refusal of what comes next

-- if something else is due, in an input of this many bytes
abbrev pub refusal : ℕ → Why → List Lexeme → Fault
refusal end why [] = record { span = record { start = end; end = end }; why = why }
refusal end why (l ∷ ls) = record {
  span = record { start = l.start; end = l.end };
  why = if is_broken l.token then Why.Unterminated else why;
}

-- the next token does not pass the test, and is refused; or the end is; nothing is taken
pub record IsNextRefused (test : Token → Bool) (due : Why) (old new : Remaining) (fault : Fault)
    : Type 0 where
  pub other : starts test old.ahead ≡ false
  pub refused : fault ≡ refusal (length old.input) due old.ahead
  pub kept : new ≡ old
