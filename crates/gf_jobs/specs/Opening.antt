-- What is looked at and opened for a job, and what readers and writers that wrap others show.
use Rattle.std.specs.Prelude.{◌≡◌, ◌⊎◌, ℕ, Bool, List, [], ◌++◌, take, codes, Option, Some}
use Rattle.std.specs.Prelude.{None, if◌then◌else◌, option_map, IfOk, MatchResult, Result, Ok, Err, ⊤}
use Rattle.std.specs.Str.{bytes_eq}
use Rattle.std.specs.String.{string_bytes}
use Rattle.std.specs.declared.io.Error.{Error}
use Rattle.gf_words.specs.declared.job.Input.{Input}
use Rattle.gf_jobs.specs.declared.collections.file.CollectionFile.{CollectionFile}
use Rattle.gf_jobs.specs.declared.opening.inputs.Found.{Found}
use Rattle.gf_jobs.specs.declared.opening.kept.Kept.{Kept}
use Rattle.gf_jobs.specs.declared.opening.opened.Opened.{Opened}
use Rattle.gf_jobs.specs.declared.collections.erasing.Erasing.{Erasing}
use Rattle.gf_run.specs.Streams.{Stream, inner_of}
use Rattle.gf_run.specs.declared.fault.Which.{Which}
use Rattle.gf_run.specs.declared.streams.counted.Counted.{Counted}

-- What shows which files there are, opens inputs, and puts texts in the place of files. `is_at` is
-- between the state, a path and what is there; `listed` between the state, the path of a folder, the
-- names in it and whether these are all. Each of the others is between the state before, what is
-- returned, and the state after; before what is returned come a file's name and, to replace it, the
-- text. `both` is that of the call that opens two inputs: files of these names, or standard input.
pub record Opener (I S : Type 0) : Type 1 where
  pub is_at : I → List ℕ → Found → Type 0
  pub listed : I → List ℕ → List (List ℕ) → Bool → Type 0
  pub standard : I → S → I → Type 0
  pub file : I → List ℕ → Result S Error → I → Type 0
  pub both : I → Option (List ℕ) → Option (List ℕ) → Result (S × S) (Which × Error) → I → Type 0
  pub replaced : I → List ℕ → List ℕ → Result ⊤ Error → I → Type 0

-- the name of the file that an input is; standard input has none
abbrev pub file_of : Input → Option (List ℕ)
file_of Input.Standard = None
file_of (Input.File name) = Some (string_bytes name)

-- the name of the file that a word names; `-` is standard input
abbrev pub file_named : List ℕ → Option (List ℕ)
file_named word = if bytes_eq word (codes "-") then None else Some word

module _ {I S : Type 0} (opener : Opener I S) where
  -- what opening gives: the file of this name, or standard input if there is none
  abbrev pub Opens : Option (List ℕ) → I → Result S Error → I → Type 0
  Opens None i answer i' = (s : S) × (answer ≡ Ok s) × opener.standard i s i'
  Opens (Some name) i answer i' = opener.file i name answer i'

  -- opening a file of a collection gives an input that is open, or none
  abbrev pub OpensFile : CollectionFile → I → Option S → I → Type 0
  OpensFile (CollectionFile.Input input) i (Some s) i' = Opens (file_of input) i (Ok s) i'
  OpensFile (CollectionFile.Input input) i None i' =
      (error : Error) × Opens (file_of input) i (Err error) i'
  OpensFile (CollectionFile.NotText name) i answer i' = (answer ≡ None) × (i' ≡ i)

  -- opening two inputs by one call, the first and then the second, so that neither is read before, gives
  -- both; or why one could not be opened
  abbrev pub OpensBoth : (first second : Option (List ℕ)) → I → Result (S × S) (Which × Error) → I
      → Type 0
  OpensBoth first second i answer i' = opener.both i first second answer i'
      × ((one : Result S Error) × (mid : I) × Opens first i one mid × MatchResult one
      (λ s. (other : Result S Error) × Opens second mid other i' × MatchResult other
      (λ t. answer ≡ Ok (s, t)) (λ error. answer ≡ Err (Which.Second, error)))
      (λ error. (answer ≡ Err (Which.First, error)) × (i' ≡ mid)))

-- ---- a reader that keeps the bytes that pass

-- the reader that it wraps
abbrev pub source_of : {S : Type 0} → Kept S → S
source_of kept = kept.source

-- the bytes that it has kept; none if they are not kept, or memory for them ran out
abbrev pub bytes_kept : {S : Type 0} → Kept S → Option (List ℕ)
bytes_kept kept = option_map (λ bytes. bytes.items) kept.bytes

-- the bytes that it has kept before the first pull
abbrev pub kept_at_first : Bool → Option (List ℕ)
kept_at_first keeps = if keeps then Some [] else None

-- what is kept before a pull, its buffer, its answer, and what is kept after it
abbrev pub Keeps : Option (List ℕ) → List ℕ → Result ℕ Error → Option (List ℕ) → Type 0
Keeps None buffer answer after = after ≡ None
Keeps (Some bytes) buffer (Ok n) after = (after ≡ Some (bytes ++ take n buffer)) ⊎ (after ≡ None)
Keeps (Some bytes) buffer (Err error) after = after ≡ Some bytes

-- what the reader that it wraps shows, and that each pull keeps what it gives
abbrev pub kept_reader : {S : Type 0} → Stream S → Stream (Kept S)
kept_reader reader = record {
  known = λ kept. reader.known (source_of kept);
  count = λ kept. reader.count (source_of kept);
  gives = λ old buffer answer new. reader.gives (source_of old) buffer answer (source_of new)
      × Keeps (bytes_kept old) buffer answer (bytes_kept new);
}

-- ---- an input that is open

-- the bytes that it has left, if what it reads reports them
abbrev pub remaining_of : {S F : Type 0} → (S → Option (List ℕ)) → (F → Option (List ℕ))
    → Opened S F → Option (List ℕ)
remaining_of standard file (Opened.Standard input) = standard input
remaining_of standard file (Opened.File input) = file input

-- standard input is opened as such, and a file as a file; of what becomes of files, nothing is said
abbrev pub host_opener : {I S F : Type 0} → Opener I (Counted (Opened S F))
host_opener {S = S} {F = F} = record {
  is_at = λ _ _ _. Unit {0};
  listed = λ _ _ _ _. Unit {0};
  standard = λ _ opened _. (input : S) × (inner_of opened ≡ Opened.Standard input);
  file = λ _ _ answer _. IfOk answer (λ opened. (file : F) × (inner_of opened ≡ Opened.File file));
  both = λ _ _ _ _ _. Unit {0};
  replaced = λ _ _ _ _ _. Unit {0};
}

-- what a writer holds that erases what is in a line before it begins one: what the writer that it wraps
-- holds, if it erases nothing and that one reports it
abbrev pub held_by : {W : Type 0} → (W → Option (List ℕ)) → Erasing W → Option (List ℕ)
held_by contents erasing = if erasing.erases then None else contents erasing.terminal
