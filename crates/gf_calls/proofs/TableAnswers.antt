-- The answers of the calls that write a table.
use Rattle.std.proofs.Common.{◌≡◌, ◌∙◌, ℕ, List, refl}
use Rattle.gf_nfg.specs.Table.{Table}
use Rattle.gf_canon.specs.GameFile.{GameFile}
use Rattle.gf_canon.specs.CanonicalText.{SpellsWithin}
use Rattle.gf_calls.specs.Tabled.{IsTableOfFile, IsTabled, written}
use Rattle.gf_calls.specs.inner.MadeText.{IsMadeText, made, not_made}
use Rattle.gf_calls.specs.Tabled.{out_of_memory, TableOutput}
use Rattle.gf_form.specs.declared.forms.Strategies.{Strategies}
use Rattle.gf_calls.specs.declared.status.Status.{Status}

-- the text of the table of a file answers the call
pub made_answers : (strategies : Strategies) (bytes : List ℕ) (x : GameFile) (t : Table)
    (old new : TableOutput) (status : Status)
    → SpellsWithin bytes x → IsTableOfFile strategies x t
    → IsMadeText t old.out new.out old.needed new.needed status
    → new ≡ record old { out = new.out; needed = new.needed }
    → IsTabled strategies bytes old new status
made_answers strategies bytes x t old new status spelled is (made handed) others =
    written _ (record { file = x; spelled = spelled; table = t; is_table = is; is_text = refl })
    handed others
made_answers strategies bytes x t old new status spelled is (not_made none out needed) others =
    out_of_memory none (x, spelled) (others ∙ rw (out, needed) refl)
