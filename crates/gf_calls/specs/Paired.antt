-- What a call answers that pairs the numbers of two files.
use Rattle.std.specs.Prelude.{◌≡◌, ℕ, List}
use Rattle.gf_canon.specs.GameFile.{GameFile, SameFile}
use Rattle.gf_canon.specs.CanonicalText.{SpellsWithin}
use Rattle.gf_calls.specs.Handed.{IsHandedOut}
use Rattle.gf_calls.specs.Pairs.{ArePairs}
use Rattle.gf_calls.specs.Refused.{AreRefusedAs, Refusal}
use Rattle.gf_calls.specs.declared.pair.Pair.{Pair}
use Rattle.gf_calls.specs.declared.status.Status.{Status}

-- what the call can write: the buffer, how many pairs there are, and a refusal
pub record PairsOutput : Type 0 where
  pub out : List Pair
  pub needed : ℕ
  pub refusal : Refusal

-- Both mean files, and these are the same, and their pairs are handed out; or they are not. Or the
-- files have no answer. Nothing else is written.
pub data IsPaired (a b : List ℕ) (old new : PairsOutput) (status : Status) : Type 0 where
  paired : (x y : GameFile) → SpellsWithin a x → SpellsWithin b y → SameFile x y
      → (pairs : List Pair) → ArePairs x y pairs
      → IsHandedOut pairs old.out new.out new.needed status → new.refusal ≡ old.refusal
      → IsPaired a b old new status
  different : (x y : GameFile) → SpellsWithin a x → SpellsWithin b y → ¬ (SameFile x y)
      → status ≡ Status.Different → new ≡ old → IsPaired a b old new status
  refused : AreRefusedAs a b old.refusal new.refusal status
      → new ≡ record old { refusal = new.refusal } → IsPaired a b old new status
