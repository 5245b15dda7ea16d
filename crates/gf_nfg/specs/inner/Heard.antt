-- What the machine answers to the tokens of an input, refusals with their places. Here it also
-- refuses profiles past their limit.
use Rattle.std.specs.Prelude.{ℕ, Bool, false, nat_lt, List, Result, Ok, Err, if◌then◌else◌}
use Rattle.gf_token.specs.Remaining.{Remaining}
use Rattle.gf_token.specs.Token.{Token, Lexeme}
use Rattle.gf_token.specs.declared.fault.Fault.{Fault}
use Rattle.gf_token.specs.declared.fault.Why.{Why}
use Rattle.gf_token.specs.Offered as any_format
pub use Rattle.gf_token.specs.Offered.{Fails, Goes}
use Rattle.gf_nfg.specs.Limit.{profile_limit}
use Rattle.gf_nfg.specs.inner.Machine.{Content, State, finish, step}
use Rattle.gf_nfg.specs.Position.{Position, Position as p}

-- the profiles pass their limit, after the strategies of one more player were read
abbrev pub is_past : Position → ℕ → Bool
is_past (p.Counts left) profiles = nat_lt profile_limit profiles
is_past (p.BeforeList left) profiles = nat_lt profile_limit profiles
is_past _ profiles = false

abbrev pub within : Result State Why → Result State Why
within (Ok s) = if is_past s.position s.content.profiles then Err Why.TooManyProfiles else Ok s
within (Err why) = Err why

-- the next token
abbrev pub taken : State → Token → Result State Why
taken s t = within (step s t)

-- the answer to the tokens to come, before the end of an input of this many bytes
abbrev pub read_on : ℕ → State → List Lexeme → Result Content Fault
read_on = any_format.read_on taken finish

-- the same, with the input
abbrev pub Answer : Type 0
Answer = any_format.Answer Content

abbrev pub heard : State → Remaining → Answer
heard = any_format.heard taken finish
