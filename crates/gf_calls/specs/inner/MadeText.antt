-- What becomes of the text of a table that is known.
use Rattle.std.specs.Prelude.{◌≡◌, ℕ, List}
use Rattle.gf_nfg.specs.Table.{Table}
use Rattle.gf_nfg.specs.TableText.{table_text}
use Rattle.gf_calls.specs.Handed.{IsHandedOut}
use Rattle.gf_calls.specs.declared.status.Status.{Status}

-- it is handed out, or memory ran out
pub data IsMadeText (t : Table) (old new : List ℕ) (before needed : ℕ) (status : Status)
    : Type 0 where
  made : IsHandedOut (table_text t) old new needed status
      → IsMadeText t old new before needed status
  not_made : status ≡ Status.OutOfMemory → new ≡ old → needed ≡ before
      → IsMadeText t old new before needed status
