-- A machine that reads one token after another, whatever the format, and how the code of a reader
-- follows it. No public contract cites this file.
use Rattle.std.specs.Prelude.{◌≡◌, ℕ, ◌<◌, List, [], ◌∷◌, length, Result, Ok, Err}
use Rattle.gf_token.specs.Remaining.{IsPlaceIn, Remaining}
use Rattle.gf_token.specs.Token.{Token, Lexeme}
use Rattle.gf_token.specs.declared.fault.Fault.{Fault}
use Rattle.gf_token.specs.declared.fault.Span.{Span}
use Rattle.gf_token.specs.declared.fault.Why.{Why}

infixl 10 ◌>>=◌
abbrev pub ◌>>=◌ : {A B E : Type 0} → Result A E → (A → Result B E) → Result B E
(Ok x) >>= f = f x
(Err e) >>= f = Err e

-- a refusal stands at these bytes
abbrev pub placed : {A : Type 0} → ℕ → ℕ → Result A Why → Result A Fault
placed start end (Ok x) = Ok x
placed start end (Err why) = Err (record { span = record { start = start; end = end }; why = why })

-- what a machine answers to the tokens to come of an input
pub record Answer (C : Type 0) : Type 0 where
  pub input : List ℕ
  pub machine : Result C Fault

-- A token leads from a state to another, or is refused. At the end of the tokens, something was
-- read, or the end is refused.
module _ {S C : Type 0} (step : S → Token → Result S Why) (finish : S → Result C Why) where
  -- the answer to the tokens to come
  abbrev pub run : S → List Token → Result C Why
  run s [] = finish s
  run s (t ∷ ts) = step s t >>= λ after. run after ts

  -- the same, and where a refusal stands in an input of this many bytes
  abbrev pub read_on : ℕ → S → List Lexeme → Result C Fault
  read_on end s [] = placed end end (finish s)
  read_on end s (l ∷ ls) = placed l.start l.end (step s l.token) >>= λ after. read_on end after ls

  abbrev pub heard : S → Remaining → Answer C
  heard s t = record { input = t.input; machine = read_on (length t.input) s t.ahead }

-- where tokens lead from a state
abbrev pub walk : {S : Type 0} → (S → Token → Result S Why) → S → List Token → Result S Why
walk step s ts = run step (λ after. Ok after) s ts

-- ---- the code follows the machine

-- what the machine refuses, if anything, begins after this byte
abbrev pub HasPassed : {C : Type 0} → Result C Fault → ℕ → Type 0
HasPassed (Ok content) start = Unit {0}
HasPassed (Err fault) start = start < fault.span.start

-- memory ran out at a place of the input that the machine has passed
pub record HasPassedPlace {C : Type 0} (before : Answer C) (span : Span) : Type 0 where
  pub place : IsPlaceIn before.input span
  pub passed : HasPassed before.machine span.start

-- the code refuses as the machine does, or for lack of memory if the machine goes on
pub data Fails {C : Type 0} (f : Fault) (before : Answer C) : Type 0 where
  of_file : before.machine ≡ Err f → Fails f before
  of_memory : f.why ≡ Why.Memory → HasPassedPlace before f.span → Fails f before

-- the machine answers to the tokens before a call as to those after it
abbrev pub Goes : {A C : Type 0} → Answer C → Result A Fault → Answer C → Type 0
Goes before (Ok _) after = before ≡ after
Goes before (Err f) after = Fails f before
