-- What a call answers that checks a file.
use Rattle.std.specs.Prelude.{◌≡◌, ℕ, List}
use Rattle.gf_canon.specs.KindOfFile.{MeansFileOf}
use Rattle.gf_canon.specs.declared.kind.FileKind.{FileKind}
use Rattle.gf_calls.specs.Numbers.{kind_number}
use Rattle.gf_calls.specs.Refused.{IsRefusedAs}
use Rattle.gf_calls.specs.declared.fault.FaultNumbers.{FaultNumbers}
use Rattle.gf_calls.specs.declared.status.Status.{Status}

-- what the call can write: the kind of a file, and the numbers of a refusal
pub record CheckOutput : Type 0 where
  pub kind : ℕ
  pub numbers : FaultNumbers

-- the bytes mean a file of this kind, or are refused; nothing else is written
pub data IsChecked (bytes : List ℕ) (old new : CheckOutput) (status : Status) : Type 0 where
  right : (kind : FileKind) → status ≡ Status.Done → MeansFileOf bytes kind
      → new.kind ≡ kind_number kind → new.numbers ≡ old.numbers → IsChecked bytes old new status
  refused : IsRefusedAs bytes status new.numbers → new.kind ≡ old.kind
      → IsChecked bytes old new status
