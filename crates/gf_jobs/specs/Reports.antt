-- What is reported on standard error, and how the program ends.
use Rattle.std.specs.Prelude.{◌≡◌, ◌⊎◌, ℕ, List, codes, Option, Some, None, Result, Ok, Err}
use Rattle.std.specs.String.{string_bytes}
use Rattle.gf_words.specs.declared.fault.WordsFault.{WordsFault}
use Rattle.gf_words.specs.declared.job.Input.{Input}
use Rattle.gf_explain.specs.Explained as refusal
use Rattle.gf_run.specs.Faults.{fault_line, short_line, status_of}
use Rattle.gf_run.specs.Streams.{IsWriteFault, IsWritten, Stream}
use Rattle.gf_jobs.specs.Lines.{after_name}
use Rattle.gf_jobs.specs.declared.collections.file.CollectionFile.{CollectionFile}
use Rattle.gf_run.specs.declared.fault.RunFault.{RunFault}

-- what an input is called, where standard input is called this
abbrev pub called : List ℕ → Input → List ℕ
called standard Input.Standard = standard
called standard (Input.File name) = string_bytes name

-- what one of several files is called
abbrev pub name_of : CollectionFile → List ℕ
name_of (CollectionFile.Input input) = called (codes "-") input
name_of (CollectionFile.NotText name) = string_bytes name

-- an explanation of a fault of the file with this name and these bytes: that of the refusal; or else
-- the line of the fault, and after it what is shown
abbrev pub IsExplained : RunFault → List ℕ → List ℕ → List ℕ → Type 0
IsExplained (RunFault.Refused which fault) name bytes text = refusal.IsExplained fault name bytes text
IsExplained fault name bytes text = refusal.IsSaidAfter (short_line fault) text

-- one that begins with the name of its file, also if it names no place
abbrev pub IsNamedExplanation : RunFault → List ℕ → List ℕ → List ℕ → Type 0
IsNamedExplanation (RunFault.Refused which fault) name bytes text =
    refusal.IsExplained fault name bytes text
IsNamedExplanation fault name bytes text =
    (said : List ℕ) × IsExplained fault name bytes said × (text ≡ after_name name said)

-- what is written by the bytes of a file that were kept: what explains them; or a line, if none were,
-- or memory for the explanation ran out
abbrev pub IsLineOr : List ℕ → (List ℕ → List ℕ → Type 0) → Option (List ℕ) → List ℕ → Type 0
IsLineOr line Explains None text = text ≡ line
IsLineOr line Explains (Some bytes) text = (text ≡ line) ⊎ Explains bytes text

-- for standard error
module _ {E : Type 0} (writer : Stream E) where
  -- a text was written whole; or a prefix of it, and then the writer failed
  abbrev pub IsSent : List ℕ → E → E → Type 0
  IsSent text old new = IsWritten writer old new text ⊎ IsWriteFault writer old new text

  -- a fault of the file with this name was reported, and this is its status
  abbrev pub IsReported : List ℕ → Option (List ℕ) → RunFault → ℕ → E → E → Type 0
  IsReported name kept fault status old new = (status ≡ status_of fault)
      × ((text : List ℕ) × IsLineOr (fault_line fault) (IsExplained fault name) kept text
      × IsSent text old new)

  -- the same of one of several files, always after its name; or memory for the text ran out
  abbrev pub IsNamedReport : List ℕ → Option (List ℕ) → RunFault → ℕ → E → E → Type 0
  IsNamedReport name kept fault status old new = ((status ≡ status_of fault) × ((text : List ℕ)
      × IsLineOr (after_name name (fault_line fault)) (IsNamedExplanation fault name) kept text
      × IsSent text old new))
      ⊎ ((status ≡ status_of RunFault.Memory) × IsSent (fault_line RunFault.Memory) old new)

-- How a run ends by its result: with the status of its answer, and nothing is reported; or with
-- that of its fault, of which `Reports` says how it is reported.
abbrev pub Ends : {A E : Type 0} → (Option (List ℕ) → RunFault → ℕ → E → E → Type 0) → (A → ℕ)
    → Result A RunFault → Option (List ℕ) → ℕ → E → E → Type 0
Ends Reports status_of_answer (Ok answer) kept status old new =
    (status ≡ status_of_answer answer) × (new ≡ old)
Ends Reports status_of_answer (Err fault) kept status old new = Reports kept fault status old new

-- for standard output and for standard error
module _ {W E : Type 0} (writer : Stream W) (errors : Stream E) where
  -- Words that ask for no job are answered with this status: help is written to standard output;
  -- for wrong usage, and if memory ran out, a text is written to standard error only.
  abbrev pub IsAnswered : WordsFault → ℕ → W → W → E → E → Type 0
  IsAnswered (WordsFault.Help text) status o o' e e' =
      ((status ≡ 0) × (e' ≡ e) × IsWritten writer o o' (string_bytes text))
      ⊎ ((status ≡ 4) × IsSent errors (fault_line RunFault.Write) e e'
      × IsWriteFault writer o o' (string_bytes text))
  IsAnswered (WordsFault.Usage text) status o o' e e' =
      (status ≡ 3) × (o' ≡ o) × IsSent errors (string_bytes text) e e'
  IsAnswered WordsFault.Memory status o o' e e' =
      (status ≡ 5) × (o' ≡ o) × IsSent errors (fault_line RunFault.Memory) e e'
