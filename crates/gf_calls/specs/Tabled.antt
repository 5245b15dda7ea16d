-- What a call answers that writes a file as a table.
use Rattle.std.specs.Prelude.{◌≡◌, ℕ, List, Option, Some, None}
use Rattle.gf_nfg.specs.Table.{Table}
use Rattle.gf_nfg.specs.TableText.{table_text}
use Rattle.gf_tree.specs.Game.{Game}
use Rattle.gf_canon.specs.GameFile.{GameFile}
use Rattle.gf_canon.specs.GameFile.GameFile.{extensive, strategic}
use Rattle.gf_canon.specs.CanonicalText.{SpellsWithin}
use Rattle.gf_canon.specs.Judgement.{MeansFile}
use Rattle.gf_form.specs.Forms.{HasFewPlayers, IsFormOf, IsWithoutForm}
use Rattle.gf_token.specs.declared.form_fault.FormFault.{FormFault}
use Rattle.gf_form.specs.declared.forms.Strategies.{Strategies}
use Rattle.gf_calls.specs.Handed.{IsHandedOut}
use Rattle.gf_calls.specs.Refused.{IsRefusedAs}
use Rattle.gf_calls.specs.declared.fault.FaultNumbers.{FaultNumbers}
use Rattle.gf_calls.specs.declared.status.Status.{Status}

-- the table of a file: for a game its form, and for a table the table itself
abbrev pub IsTableOfFile : Strategies → GameFile → Table → Type 0
IsTableOfFile strategies (extensive g) t = IsFormOf strategies g t
IsTableOfFile strategies (strategic s) t = t ≡ s

-- the bytes mean a file, and this is the canonical text of its table
pub record IsTableText (strategies : Strategies) (bytes text : List ℕ) : Type 0 where
  pub file : GameFile
  pub spelled : SpellsWithin bytes file
  pub table : Table
  pub is_table : IsTableOfFile strategies file table
  pub is_text : text ≡ table_text table

-- what is answered if a game has no table
abbrev pub form_status : FormFault → Status
form_status FormFault.TooManyProfiles = Status.TooManyProfiles
form_status (FormFault.Overflow profile) = Status.Overflow
form_status FormFault.Memory = Status.OutOfMemory

-- the number of the profile that overflows; without one, the number from before
abbrev pub profile_of : FormFault → ℕ → ℕ
profile_of (FormFault.Overflow at) profile = at
profile_of _ profile = profile

-- what the call can write: the buffer, the length of the text, the numbers of a refusal, and the
-- number of a profile that overflows
pub record TableOutput : Type 0 where
  pub out : List ℕ
  pub needed : ℕ
  pub numbers : FaultNumbers
  pub profile : ℕ

-- The text of the table is handed out; or the bytes are refused; or they mean a game that has no
-- table, or more players than a table can have; or memory ran out although they are valid. Nothing
-- else is written.
pub data IsTabled (strategies : Strategies) (bytes : List ℕ) (old new : TableOutput)
    (status : Status) : Type 0 where
  written : (text : List ℕ) → IsTableText strategies bytes text
      → IsHandedOut text old.out new.out new.needed status
      → new ≡ record old { out = new.out; needed = new.needed }
      → IsTabled strategies bytes old new status
  refused : IsRefusedAs bytes status new.numbers → new ≡ record old { numbers = new.numbers }
      → IsTabled strategies bytes old new status
  without_form : (g : Game) → SpellsWithin bytes (extensive g) → (fault : FormFault)
      → IsWithoutForm strategies g fault → status ≡ form_status fault
      → new ≡ record old { profile = profile_of fault old.profile }
      → IsTabled strategies bytes old new status
  too_many_players : (g : Game) → SpellsWithin bytes (extensive g) → ¬ (HasFewPlayers g)
      → status ≡ Status.Misuse → new ≡ old → IsTabled strategies bytes old new status
  out_of_memory : status ≡ Status.OutOfMemory → MeansFile bytes → new ≡ old
      → IsTabled strategies bytes old new status

-- the same, with strategies as the flags say; other flags are not understood
abbrev pub IsTabledBy : Option Strategies → List ℕ → TableOutput → TableOutput → Status → Type 0
IsTabledBy (Some strategies) bytes old new status = IsTabled strategies bytes old new status
IsTabledBy None bytes old new status = (status ≡ Status.Misuse) × (new ≡ old)
