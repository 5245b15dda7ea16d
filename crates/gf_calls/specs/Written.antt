-- What a call answers that writes the canonical text of a file, or its hash.
use Rattle.std.specs.Prelude.{◌≡◌, ℕ, List, Option, Some, None}
use Rattle.hex.specs.Hex.{encode_lower}
use Rattle.sha2.specs.Sha256.{sha256}
use Rattle.gf_canon.specs.Judgement.{MeansFile}
use Rattle.gf_canon.specs.NamesAside.{IsTextBy}
use Rattle.gf_token.specs.declared.names.Names.{Names}
use Rattle.gf_calls.specs.Handed.{IsHandedOut}
use Rattle.gf_calls.specs.Refused.{IsRefusedAs}
use Rattle.gf_calls.specs.declared.fault.FaultNumbers.{FaultNumbers}
use Rattle.gf_calls.specs.declared.status.Status.{Status}

-- the SHA-256 digest of the file's canonical text, in hexadecimal digits
pub record IsHashBy (names : Names) (bytes hash : List ℕ) : Type 0 where
  pub text : List ℕ
  pub is_text : IsTextBy names bytes text
  pub is_digest : hash ≡ encode_lower (sha256 text)

-- what the call can write: the buffer, the length of the text, and the numbers of a refusal
pub record TextOutput : Type 0 where
  pub out : List ℕ
  pub needed : ℕ
  pub numbers : FaultNumbers

-- A text of the bytes is handed out, or they are refused; or memory ran out although they are
-- valid. Nothing else is written.
pub data IsWritten (IsText : List ℕ → Type 0) (bytes : List ℕ) (old new : TextOutput)
    (status : Status) : Type 0 where
  written : (text : List ℕ) → IsText text → IsHandedOut text old.out new.out new.needed status
      → new.numbers ≡ old.numbers → IsWritten IsText bytes old new status
  refused : IsRefusedAs bytes status new.numbers → new ≡ record old { numbers = new.numbers }
      → IsWritten IsText bytes old new status
  out_of_memory : status ≡ Status.OutOfMemory → MeansFile bytes → new ≡ old
      → IsWritten IsText bytes old new status

-- the same, with names as the flags say; other flags are not understood
abbrev pub IsWrittenBy : (Names → List ℕ → List ℕ → Type 0) → Option Names → List ℕ
    → TextOutput → TextOutput → Status → Type 0
IsWrittenBy IsText (Some names) bytes old new status =
    IsWritten (IsText names bytes) bytes old new status
IsWrittenBy IsText None bytes old new status = (status ≡ Status.Misuse) × (new ≡ old)
