-- The numbers that C gets in place of values that cannot cross to it.
use Rattle.std.specs.Prelude.{◌≡◌, ℕ, Option, Some, None, nat_eq, if◌then◌else◌}
use Rattle.gf_token.specs.Code.{code_of}
use Rattle.gf_token.specs.declared.fault.Fault.{Fault}
use Rattle.gf_token.specs.declared.fault.What.{What}
use Rattle.gf_token.specs.declared.fault.Why.{Why}
use Rattle.gf_canon.specs.declared.kind.FileKind.{FileKind}
use Rattle.gf_token.specs.declared.names.Names.{Names}
use Rattle.gf_calls.specs.declared.fault.FaultNumbers.{FaultNumbers}
use Rattle.gf_form.specs.declared.forms.Strategies.{Strategies}
use Rattle.gf_calls.specs.declared.status.Status.{Status}

-- the number of what a call answers; no call answers 4, which in the program means that a file
-- failed
abbrev pub status_number : Status → ℕ
status_number Status.Done = 0
status_number Status.Different = 1
status_number Status.Refused = 2
status_number Status.Misuse = 3
status_number Status.OutOfMemory = 5
status_number Status.TooManyProfiles = 6
status_number Status.Overflow = 7
status_number Status.TooSmall = 8

-- a call returned the number of a status of which this holds
abbrev pub Answers : ℕ → (Status → Type 0) → Type 0
Answers result Is = (status : Status) × (result ≡ status_number status) × Is status

-- the number of a kind of file; 0 is the number of none
abbrev pub kind_number : FileKind → ℕ
kind_number FileKind.Tree = 1
kind_number FileKind.Strategic = 2

-- what was expected; 0 stands for nothing
abbrev pub what_number : What → ℕ
what_number What.Format = 1
what_number What.Version = 2
what_number What.Letter = 3
what_number What.Text = 4
what_number What.Opening = 5
what_number What.Closing = 6
what_number What.Number = 7
what_number What.Index = 8
what_number What.Strategies = 9
what_number What.Node = 10
what_number What.End = 11

-- for an E3, what was expected
abbrev pub expected_number : Why → ℕ
expected_number (Why.Expected what) = what_number what
expected_number _ = 0

-- a refusal, its place, and what was expected
abbrev pub fault_numbers : Fault → FaultNumbers
fault_numbers fault = record {
  code = code_of fault.why;
  expected = expected_number fault.why;
  start = fault.span.start;
  end = fault.span.end;
}

-- the names that count, by a call's flags
abbrev pub names_by : ℕ → Option Names
names_by flags = if nat_eq flags 0 then Some Names.Kept
    else if nat_eq flags 1 then Some Names.Aside else None

-- the strategies of a table, by a call's flags
abbrev pub strategies_by : ℕ → Option Strategies
strategies_by flags = if nat_eq flags 0 then Some Strategies.Pure
    else if nat_eq flags 2 then Some Strategies.Reduced else None
