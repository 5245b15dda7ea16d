-- What a call answers that explains why a file is refused.
use Rattle.std.specs.Prelude.{◌≡◌, ◌≢◌, ℕ, List}
use Rattle.std.specs.Str.Lossy.{utf8_lossy}
use Rattle.gf_token.specs.declared.fault.Fault.{Fault}
use Rattle.gf_token.specs.declared.fault.Why.{Why}
use Rattle.gf_canon.specs.Judgement.{IsRefusedWith, MeansFile}
use Rattle.gf_explain.specs.Explained as refusal
use Rattle.gf_calls.specs.Handed.{IsHandedOut}
use Rattle.gf_calls.specs.Numbers.{fault_numbers}
use Rattle.gf_calls.specs.Written.{TextOutput}
use Rattle.gf_calls.specs.declared.status.Status.{Status}

-- what is answered about a file that is refused: that it is, if the explanation fits the buffer
abbrev pub explained_status : Status → Status
explained_status Status.Done = Status.Refused
explained_status status = status

-- The bytes mean a file, and nothing is written. Or they are refused: the explanation is handed out,
-- or memory ran out for reading or for the explanation; either way, the caller learns the numbers of
-- the refusal, and nothing else is written. What is not UTF-8 in the name is shown as U+FFFD.
pub data IsExplained (name bytes : List ℕ) (old new : TextOutput) (status : Status) : Type 0 where
  accepted : status ≡ Status.Done → MeansFile bytes → new ≡ old
      → IsExplained name bytes old new status
  explained : (fault : Fault) → IsRefusedWith bytes fault → fault.why ≢ Why.Memory
      → (text : List ℕ) → refusal.IsExplained fault (utf8_lossy name) bytes text
      → (handed : Status) → IsHandedOut text old.out new.out new.needed handed
      → status ≡ explained_status handed → new.numbers ≡ fault_numbers fault
      → IsExplained name bytes old new status
  out_of_memory : (fault : Fault) → IsRefusedWith bytes fault → status ≡ Status.OutOfMemory
      → new ≡ record old { numbers = fault_numbers fault } → IsExplained name bytes old new status
