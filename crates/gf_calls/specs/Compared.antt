-- What a call answers that compares two files.
use Rattle.std.specs.Prelude.{◌≡◌, ◌↔◌, ℕ, Bool, true, false, IsTrue, List, Option, Some, None}
use Rattle.gf_canon.specs.GameFile.{GameFile}
use Rattle.gf_canon.specs.CanonicalText.{SpellsWithin}
use Rattle.gf_canon.specs.SameBy.{SameBy}
use Rattle.gf_token.specs.declared.names.Names.{Names}
use Rattle.gf_calls.specs.Refused.{AreRefusedAs, Refusal}
use Rattle.gf_calls.specs.declared.status.Status.{Status}

-- the status of the answer whether two files mean the same
abbrev pub same_status : Bool → Status
same_status true = Status.Done
same_status false = Status.Different

-- both mean files, and the answer says whether they are the same
abbrev pub IsSameAnswer : Names → List ℕ → List ℕ → Bool → Type 0
IsSameAnswer names a b same = (x y : GameFile) × SpellsWithin a x × SpellsWithin b y
    × (IsTrue same ↔ SameBy names x y)

-- the answer, or why there is none
pub data IsCompared (names : Names) (a b : List ℕ) (old new : Refusal) (status : Status)
    : Type 0 where
  compared : (same : Bool) → status ≡ same_status same → IsSameAnswer names a b same
      → new ≡ old → IsCompared names a b old new status
  refused : AreRefusedAs a b old new status → IsCompared names a b old new status

-- the same, with names as the flags say; other flags are not understood
abbrev pub IsComparedBy : Option Names → List ℕ → List ℕ → Refusal → Refusal → Status → Type 0
IsComparedBy (Some names) a b old new status = IsCompared names a b old new status
IsComparedBy None a b old new status = (status ≡ Status.Misuse) × (new ≡ old)
