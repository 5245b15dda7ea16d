-- What the bytes of a file are answered with: its canonical text, or out of memory.
use Rattle.gf_canon.proofs.Common.{◌≡◌, ℕ, List, Result, Ok, Err, IfOk, IfErr, MatchResult, Fault}
use Rattle.gf_canon.proofs.Common.{Memory, Table, SpellsTable, GameFile, SpellsFile, canonical_text}
use Rattle.gf_canon.proofs.Common.{strategic, IsRefusedWith, IsTextBy, SpellsWithin, file_by, Names}
use Rattle.gf_canon.proofs.Common.{IsWithinLimit, arith}
use Rattle.gf_nfg.specs.NamedBy.{named_by}
use Rattle.gf_nfg.specs.TableText.{table_text}
use Rattle.gf_canon.proofs.lemmas.files.Texts.{spells_one_file}

pub text_is : (names : Names) (bytes text : List ℕ) (x : GameFile) → IsTextBy names bytes text
    → SpellsFile bytes x → text ≡ canonical_text (file_by names x)
text_is names bytes text x h spells = grind (arith, spells_one_file)

-- items : what the text of an answer has
module _ {A : Type 0} (items : A → List ℕ) (names : Names) (bytes : List ℕ) where
  pub only_answer : (r : Result A Fault) (x : GameFile)
      → IfOk r (λ a. IsTextBy names bytes (items a)) → IfErr r (IsRefusedWith bytes)
      → SpellsWithin bytes x
      → MatchResult r (λ a. items a ≡ canonical_text (file_by names x))
      (λ fault. fault.why ≡ Memory)
  only_answer r x text refused h = grind (arith, text_is)

  pub text_of_table : (r : Result A Fault) → IfOk r (λ a. (t : Table) × SpellsTable bytes t
      × IsWithinLimit t × (items a ≡ table_text (named_by names t)))
      → IfOk r (λ a. IsTextBy names bytes (items a))
  text_of_table (Ok a) h = record {
    file = strategic h.0;
    spelled = record { spelled = h.1; within = h.2 };
    is_text = grind (arith, h.3);
  }
  text_of_table (Err fault) h = tt
