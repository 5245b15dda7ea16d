-- What a run does: it reads its inputs whole, and then writes the text that answers their bytes.
use Rattle.std.specs.Prelude.{◌≡◌, ◌⊎◌, Bool, ℕ, List, Result, Ok, Err, ⊤}
use Rattle.gf_canon.specs.KindOfFile.{MeansFileOf}
use Rattle.gf_canon.specs.NamesAside.{IsTextBy}
use Rattle.gf_canon.specs.declared.kind.FileKind.{FileKind}
use Rattle.gf_token.specs.declared.names.Names.{Names}
use Rattle.gf_form.specs.declared.forms.Strategies.{Strategies}
use Rattle.gf_run.specs.Texts.{IsFaultOfBytes, IsFaultOfFiles, IsRefusal, IsFormText, kind_line}
use Rattle.gf_run.specs.Streams.{IsNotRead, IsReadWhole, IsWriteFault, IsWritten, Stream}
use Rattle.gf_run.specs.declared.fault.RunFault.{RunFault}
use Rattle.gf_run.specs.declared.fault.Which.{Which}

-- For an input, or for two: `IsRead` says that it was read whole, and that these are its bytes, and
-- `IsUnread` that it was not, and why.
module _ {X B A : Type 0} (IsRead : X → X → B → Type 0) (IsUnread : RunFault → X → X → Type 0)
    (Does : B → Result A RunFault → Type 0) (Nothing : Type 0) where
  pub data Reads (result : Result A RunFault) (x x' : X) : Type 0 where
    -- it was read whole, and this was done with its bytes
    read : (bytes : B) → IsRead x x' bytes → Does bytes result → Reads result x x'
    -- it was not read whole, and nothing was done
    unread : (fault : RunFault) → result ≡ Err fault → IsUnread fault x x' → Nothing
        → Reads result x x'

-- `Answers` says which texts are the answer, and `Refuses` why there is none.
module _ {A W : Type 0} (writer : Stream W) (Answers : A → List ℕ → Type 0)
    (Refuses : RunFault → Type 0) where
  pub data Writes (result : Result A RunFault) (o o' : W) : Type 0 where
    -- the text was written
    answered : (answer : A) (text : List ℕ) → result ≡ Ok answer → Answers answer text
        → IsWritten writer o o' text → Writes result o o'
    -- a prefix of it was written, and then the writer failed
    cut_off : (answer : A) (text : List ℕ) → result ≡ Err RunFault.Write → Answers answer text
        → IsWriteFault writer o o' text → Writes result o o'
    -- there is none, and nothing was asked of the output
    refused : (fault : RunFault) → result ≡ Err fault → Refuses fault → o' ≡ o
        → Writes result o o'

-- ---- over one input

module _ {R W : Type 0} (reader : Stream R) (writer : Stream W) where
  abbrev pub Runs : {A : Type 0} → (A → List ℕ → List ℕ → Type 0) → (List ℕ → RunFault → Type 0)
      → Result A RunFault → R → R → W → W → Type 0
  Runs Answers Refuses result i i' o o' = Reads (IsReadWhole reader) (IsNotRead reader Which.Only)
      (λ bytes result. Writes writer (λ answer. Answers answer bytes) (Refuses bytes) result o o')
      (o' ≡ o) result i i'

  -- `run_canon_by`
  abbrev pub RunsCanonBy : Names → Result ⊤ RunFault → R → R → W → W → Type 0
  RunsCanonBy names = Runs (λ answer. IsTextBy names) IsRefusal

  -- `run_check`
  abbrev pub RunsCheck : Result FileKind RunFault → R → R → W → W → Type 0
  RunsCheck = Runs (λ kind bytes text. MeansFileOf bytes kind × (text ≡ kind_line kind)) IsRefusal

  -- `run_table` and `run_table_reduced`
  abbrev pub RunsTable : Strategies → Result ⊤ RunFault → R → R → W → W → Type 0
  RunsTable strategies = Runs (λ answer. IsFormText strategies) (IsFaultOfBytes strategies)

-- ---- over two inputs

module _ {R S : Type 0} (first : Stream R) (second : Stream S) where
  -- both were read whole
  abbrev pub AreReadWhole : R × S → R × S → List ℕ × List ℕ → Type 0
  AreReadWhole old new bytes =
      IsReadWhole first old.0 new.0 bytes.0 × IsReadWhole second old.1 new.1 bytes.1

  -- the first was not, and nothing was asked of the second; or only the first was
  abbrev pub AreNotRead : RunFault → R × S → R × S → Type 0
  AreNotRead fault old new = (IsNotRead first Which.First fault old.0 new.0 × (new.1 ≡ old.1))
      ⊎ ((bytes : List ℕ) × IsReadWhole first old.0 new.0 bytes
      × IsNotRead second Which.Second fault old.1 new.1)

  -- `run_same_by`, `run_same` and `run_same_map`: this answer about their bytes was written
  abbrev pub RunsTwo : {W : Type 0} → Stream W → (Bool → List ℕ → List ℕ → List ℕ → Type 0)
      → Result Bool RunFault → R → R → S → S → W → W → Type 0
  RunsTwo writer Answers result a a' b b' o o' = Reads AreReadWhole AreNotRead
      (λ bytes result. Writes writer (λ same. Answers same bytes.0 bytes.1)
      (IsFaultOfFiles bytes.0 bytes.1) result o o') (o' ≡ o) result (a, b) (a', b')
