-- What a call answers if a file is refused, or one of two.
use Rattle.std.specs.Prelude.{◌≡◌, ℕ, List}
use Rattle.gf_token.specs.declared.fault.Fault.{Fault}
use Rattle.gf_token.specs.declared.fault.Why.{Why}
use Rattle.gf_canon.specs.Judgement.{IsRefusedWith, MeansFile}
use Rattle.gf_calls.specs.Numbers.{fault_numbers}
use Rattle.gf_calls.specs.declared.fault.FaultNumbers.{FaultNumbers}
use Rattle.gf_calls.specs.declared.status.Status.{Status}

-- running out of memory is not a fault of the file
abbrev pub refusal_status : Why → Status
refusal_status Why.Memory = Status.OutOfMemory
refusal_status _ = Status.Refused

-- the bytes are refused, and these are the status of the refusal and its numbers
pub record IsRefusedAs (bytes : List ℕ) (status : Status) (numbers : FaultNumbers) : Type 0 where
  pub fault : Fault
  pub refused : IsRefusedWith bytes fault
  pub is_status : status ≡ refusal_status fault.why
  pub are_numbers : numbers ≡ fault_numbers fault

-- what a call on two files can write of a refusal: which of them it is, and its numbers
pub record Refusal : Type 0 where
  pub which : ℕ
  pub numbers : FaultNumbers

-- The first of two files, 0, is refused; or it is not, and the second, 1, is; or memory ran out
-- although both mean files, and nothing is written.
pub data AreRefusedAs (a b : List ℕ) (old new : Refusal) (status : Status) : Type 0 where
  first : IsRefusedAs a status new.numbers → new.which ≡ 0 → AreRefusedAs a b old new status
  second : MeansFile a → IsRefusedAs b status new.numbers → new.which ≡ 1
      → AreRefusedAs a b old new status
  out_of_memory : status ≡ Status.OutOfMemory → MeansFile a → MeansFile b → new ≡ old
      → AreRefusedAs a b old new status
