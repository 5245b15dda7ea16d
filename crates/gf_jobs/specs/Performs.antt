-- What the program does for each job, and for the files of a collection one after another.
use Rattle.std.specs.Prelude.{◌≡◌, ◌≢◌, ◌⊎◌, ℕ, Bool, max, List, [], ◌∷◌, ◌++◌, Option, Some, None}
use Rattle.std.specs.Prelude.{Result, Ok, Err, IsOk, true, false, codes, if◌then◌else◌, map, not}
use Rattle.std.specs.Prelude.{IfSome, MatchResult}
use Rattle.std.specs.List.{filter, list_any}
use Rattle.std.specs.String.{string_bytes}
use Rattle.std.specs.IoError.{error_kind}
use Rattle.std.specs.declared.io.Error.{Error}
use Rattle.std.specs.declared.io.ErrorKind.{ErrorKind}
use Rattle.gf_canon.specs.GameFile.{SameFile}
use Rattle.gf_canon.specs.NamesAside.{IsTextBy}
use Rattle.gf_canon.specs.SameBy.{SameBy}
use Rattle.gf_token.specs.declared.names.Names.{Names}
use Rattle.gf_form.specs.declared.forms.Strategies.{Strategies}
use Rattle.gf_words.specs.declared.job.Input.{Input}
use Rattle.gf_words.specs.declared.job.Job.{Job}
use Rattle.gf_words.specs.declared.job.Paths.{Paths}
use Rattle.gf_jobs.specs.Duplicates.{HashedFile, groups_text, has_two, named_groups}
use Rattle.gf_run.specs.Faults.{answer_status, is_of_second}
use Rattle.gf_run.specs.Texts.{IsRefusal, AreCanonical, IsAnswer, IsLine, IsLineAndMap}
use Rattle.gf_run.specs.Streams.{IsNotRead, IsReadWhole, Stream}
use Rattle.gf_jobs.specs.LedTo.{AreLedTo, Seen}
use Rattle.gf_jobs.specs.Lines.{names_in, ReadsHash, RunsLine, RunsOne}
use Rattle.gf_jobs.specs.Opening.{Opener, Opens, OpensBoth, OpensFile, file_named, file_of}
use Rattle.gf_jobs.specs.Opening.{bytes_kept, kept_at_first, kept_reader, source_of}
use Rattle.gf_jobs.specs.Reports.{Ends, IsReported, IsSent, IsNamedReport, called, name_of}
use Rattle.gf_run.specs.Run.{Reads, RunsTwo, Writes}
use Rattle.gf_jobs.specs.declared.collections.file.CollectionFile.{CollectionFile}
use Rattle.gf_jobs.specs.declared.collections.kept_files.Repeats.{Repeats}
use Rattle.gf_jobs.specs.declared.collections.line.FileLine.{FileLine}
use Rattle.gf_run.specs.declared.fault.RunFault.{RunFault}
use Rattle.gf_run.specs.declared.fault.Which.{Which}
use Rattle.gf_jobs.specs.declared.jobs.many_files.Task.{Task}
use Rattle.gf_jobs.specs.declared.jobs.one_file.OneTask.{OneTask}
use Rattle.gf_jobs.specs.declared.jobs.session.Session.{Session}
use Rattle.gf_jobs.specs.declared.opening.kept.Kept.{Kept}

-- what a job works with: what opens inputs, standard output and standard error
pub record World (I W E : Type 0) : Type 0 where
  pub inputs : I
  pub output : W
  pub errors : E

-- what a session works with, as it is
abbrev pub world_of : {I P W E : Type 0} → Session I P W E → World I W E
world_of s = record { inputs = s.inputs.now; output = s.output.now; errors = s.errors.now }

-- the same with the files that have a hash so far, in their order, beside the output
abbrev pub with_hashed : {I W E : Type 0} → List HashedFile → World I W E
    → World I (W × List HashedFile) E
with_hashed files a =
    record { inputs = a.inputs; output = (a.output, files); errors = a.errors }

-- a session works with the same ones, and explains faults or not as before
abbrev pub IsSame : {I P W E : Type 0} → Session I P W E → Session I P W E → Type 0
IsSame old new = (new.inputs.ghost_name ≡ old.inputs.ghost_name)
    × (new.progress.ghost_name ≡ old.progress.ghost_name)
    × (new.output.ghost_name ≡ old.output.ghost_name)
    × (new.errors.ghost_name ≡ old.errors.ghost_name) × (new.explain ≡ old.explain)

-- ---- one file

-- for what opens inputs; `explain` says whether the bytes that are read are kept. `Run` says what
-- the run over an open file does, and `End` how it ends.
module _ {I S W E A : Type 0} (opener : Opener I S) (explain : Bool)
    (Run : Result A RunFault → Kept S → Kept S → I → I → W → W → Type 0)
    (End : Result A RunFault → Option (List ℕ) → ℕ → E → E → Type 0) where
  pub data Over (file : CollectionFile) (status : ℕ) (a b : World I W E) : Type 0 where
    -- it could not be opened, and nothing was asked of the output
    unopened : OpensFile opener file a.inputs None b.inputs → b.output ≡ a.output
        → End (Err (RunFault.Read Which.Only)) (kept_at_first explain) status a.errors b.errors
        → Over file status a b
    -- it was opened once, and the run over it had this result
    opened : (result : Result A RunFault) (s s' : Kept S) (mid : I)
        → OpensFile opener file a.inputs (Some (source_of s)) mid
        → bytes_kept s ≡ kept_at_first explain
        → Run result s s' mid b.inputs a.output b.output
        → End result (bytes_kept s') status a.errors b.errors → Over file status a b

-- ---- one file after another

-- `Next` says what is done with a file, whether the run ends with it, and with which status, and `Close`
-- what is done after the last one.
module _ {A : Type 0} (Next : (ends : Bool) → CollectionFile → ℕ → A → A → Type 0)
    (Close : ℕ → A → A → Type 0) where
  -- the status is the worst of all
  abbrev pub GoesOver : List CollectionFile → ℕ → ℕ → A → A → Type 0
  GoesOver [] worst status a b = (own : ℕ) × Close own a b × (status ≡ max worst own)
  GoesOver (file ∷ files) worst status a b =
      ((own : ℕ) × Next true file own a b × (status ≡ max worst own))
      ⊎ ((own : ℕ) × (mid : A) × Next false file own a mid
      × GoesOver files (max worst own) status mid b)

-- ---- a text in the place of each file

-- for what opens inputs and replaces files
module _ {I S : Type 0} (opener : Opener I S) where
  -- a text was put in the place of a file, if it could be, and nothing is against this file then;
  -- standard input has no place
  abbrev pub IsReplacedBy : CollectionFile → List ℕ → Result Bool RunFault → I → I → Type 0
  IsReplacedBy (CollectionFile.Input (Input.File name)) text (Ok good) i i' =
      (good ≡ true) × opener.replaced i (string_bytes name) text (Ok tt) i'
  IsReplacedBy (CollectionFile.Input (Input.File name)) text (Err fault) i i' = (error : Error)
      × opener.replaced i (string_bytes name) text (Err error) i'
      × (error_kind error ≡ ErrorKind.OutOfMemory → fault ≡ RunFault.Memory)
      × (error_kind error ≢ ErrorKind.OutOfMemory → fault ≡ RunFault.Write)
  IsReplacedBy file text result i i' = (result ≡ Err RunFault.Write) × (i' ≡ i)

  -- what is done about a file that has these bytes
  pub data IsRewritten (names : Names) (file : CollectionFile) (i i' : I) (bytes : List ℕ)
      (result : Result Bool RunFault) : Type 0 where
    -- they are its canonical text, and it stays as it is
    canonical : result ≡ Ok true → AreCanonical names bytes true → i' ≡ i
        → IsRewritten names file i i' bytes result
    -- they are not, and the text was put in their place, if it could be
    replaced : (text : List ℕ) → AreCanonical names bytes false → IsTextBy names bytes text
        → IsReplacedBy file text result i i' → IsRewritten names file i i' bytes result
    -- they are refused, and the file stays as it is
    refused : (why : RunFault) → result ≡ Err why → IsRefusal bytes why → i' ≡ i
        → IsRewritten names file i i' bytes result

  -- it is read whole for that
  abbrev pub Rewrites : Stream S → Names → CollectionFile → Result Bool RunFault → Kept S → Kept S
      → I → I → Type 0
  Rewrites reader names file result s s' i i' = Reads (IsReadWhole (kept_reader reader))
      (IsNotRead (kept_reader reader) Which.Only) (IsRewritten names file i i') (i' ≡ i) result s s'

-- ---- over the files of a collection

-- whether a file is kept that a folder has by a second name
abbrev pub repeats_of : Task → Repeats
repeats_of (Task.Duplicates names end) = Repeats.PassedOver
repeats_of task = Repeats.Kept

-- Which names a collection has, or why they are not known: the names that were given, or `-` if there
-- are none, unless memory ran out; or those in a list, which is opened once, if its bytes are known,
-- unless memory ran out, the list could not be opened, or it is said not to be read.
abbrev pub AreNames : {I S : Type 0} → Opener I S → Stream S → Paths
    → Result (List (List ℕ)) RunFault → I → I → Type 0
AreNames opener reader Paths.Standard result i i' = (i' ≡ i)
    × MatchResult result (λ names. names ≡ codes "-" ∷ []) (λ fault. fault ≡ RunFault.Memory)
AreNames opener reader (Paths.Named words) result i i' = (i' ≡ i) × MatchResult result
    (λ names. names ≡ map string_bytes words.items) (λ fault. fault ≡ RunFault.Memory)
AreNames {S = S} opener reader (Paths.List list end) result i i' = (answer : Result S Error)
    × Opens opener (file_of list) i answer i' × MatchResult answer
    (λ s. MatchResult result (λ names. IfSome (reader.known s) (λ bytes. names ≡ names_in end bytes))
    (λ fault. (fault ≡ RunFault.Memory) ⊎ (fault ≡ RunFault.Read Which.Only)))
    (λ error. result ≡ Err (RunFault.Read Which.Only))

-- It was reported why no file is opened: a list could not be read, which is said after its name, and
-- explained if `explain` is true; or memory ran out.
abbrev pub IsListReport : {E : Type 0} → Stream E → Bool → RunFault → Paths → ℕ → E → E → Type 0
IsListReport errors explain (RunFault.Read which) (Paths.List list end) =
    IsNamedReport errors (called (codes "-") list) (kept_at_first explain) (RunFault.Read which)
IsListReport errors explain fault paths = IsReported errors [] None fault

-- ---- by the job

-- the answer about two files: with their renumbering if `map` is true, otherwise by names
abbrev pub IsAnswerBy : Bool → Names → Bool → List ℕ → List ℕ → List ℕ → Type 0
IsAnswerBy true names = IsAnswer SameFile IsLineAndMap
IsAnswerBy false names = IsAnswer (SameBy names) IsLine

-- of two files, the one that the result of a run over both is about
abbrev pub of_fault : {A T : Type 0} → Result A RunFault → T → T → T
of_fault (Ok answer) first second = first
of_fault (Err fault) first second = if is_of_second fault then second else first

-- for what opens inputs, for the inputs, for standard output and for standard error; `explain` says
-- whether a fault is explained
module _ {I S W E : Type 0} (opener : Opener I S) (reader : Stream S) (writer : Stream W)
    (errors : Stream E) (explain : Bool) where
  -- an input is opened once, and this is done with it
  abbrev pub PerformsOne : OneTask → Input → ℕ → World I W E → World I W E → Type 0
  PerformsOne task input = Over opener explain (λ result s s' i i' o o'.
      (i' ≡ i) × RunsOne (kept_reader reader) writer task result s s' o o')
      (Ends (IsReported errors (called (codes "<stdin>") input)) (λ done. 0))
      (CollectionFile.Input input)

  -- two files are opened by one call, the first and then the second, before either is read
  pub data PerformsTwo (map : Bool) (names : Names) (first second : List ℕ) (status : ℕ)
      (a b : World I W E) : Type 0 where
    -- one of them could not be opened, and nothing was asked of the output
    one_unopened : (which : Which) (error : Error)
        → OpensBoth opener (file_named first) (file_named second) a.inputs (Err (which, error)) b.inputs
        → b.output ≡ a.output
        → IsReported errors (of_fault {A = Bool} (Err (RunFault.Read which)) first second)
        (kept_at_first explain) (RunFault.Read which) status a.errors b.errors
        → PerformsTwo map names first second status a b
    -- they were, each once, and the run ended so
    both_opened : (s s' t t' : Kept S) (result : Result Bool RunFault)
        → OpensBoth opener (file_named first) (file_named second) a.inputs
        (Ok (source_of s, source_of t)) b.inputs → bytes_kept s ≡ kept_at_first explain → bytes_kept t ≡ kept_at_first explain
        → RunsTwo (kept_reader reader) (kept_reader reader) writer (IsAnswerBy map names) result
        s s' t t' a.output b.output
        → Ends (IsReported errors (of_fault result first second)) answer_status result
        (of_fault result (bytes_kept s') (bytes_kept t')) status a.errors b.errors
        → PerformsTwo map names first second status a b

  -- the run over one of several files, by what is done with them; beside the output stand the files that
  -- have a hash so far, in their order
  abbrev pub RunsNext : Task → CollectionFile → Result Bool RunFault → Kept S → Kept S → I → I
      → W × List HashedFile → W × List HashedFile → Type 0
  RunsNext (Task.Lines line) file result s s' i i' o o' = (i' ≡ i) × (o'.1 ≡ o.1)
      × RunsLine (kept_reader reader) writer line (name_of file) result s s' o.0 o'.0
  RunsNext (Task.Rewrites names) file result s s' i i' o o' =
      (o' ≡ o) × Rewrites opener reader names file result s s' i i'
  RunsNext (Task.Duplicates names end) file result s s' i i' o o' = (i' ≡ i) × (o'.0 ≡ o.0)
      × ((hash : Result (List ℕ) RunFault) × ReadsHash (kept_reader reader) names hash s s'
      × MatchResult hash (λ hash. (result ≡ Ok true)
      × (o'.1 ≡ o.1 ++ record { name = name_of file; hash = hash } ∷ []))
      (λ fault. (result ≡ Err fault) × (o'.1 ≡ o.1)))

  -- how it ends with a file. The run goes on if the file has its line, which gives the status 1 if
  -- something is against it, its canonical text or a hash; or if its fault was reported. The run ends if
  -- the writer failed, or if memory for a hash ran out, which was reported.
  abbrev pub EndsNext : (ends : Bool) → Task → CollectionFile → Result Bool RunFault
      → Option (List ℕ) → ℕ → E → E → Type 0
  EndsNext false task file result kept status e e' =
      ((line : FileLine) → task ≡ Task.Lines line → result ≢ Err RunFault.Write)
      × Ends (IsNamedReport errors (name_of file)) answer_status result kept status e e'
  EndsNext true (Task.Lines line) file result kept status e e' = (result ≡ Err RunFault.Write)
      × IsReported errors (name_of file) kept RunFault.Write status e e'
  EndsNext true (Task.Rewrites names) file result kept status e e' = ⊥
  EndsNext true (Task.Duplicates names end) file result kept status e e' =
      IsOk result × IsReported errors (name_of file) None RunFault.Memory status e e'

  abbrev pub DoesNext : Task → (ends : Bool) → CollectionFile → ℕ
      → World I (W × List HashedFile) E → World I (W × List HashedFile) E → Type 0
  DoesNext task ends file = Over opener explain (RunsNext task file) (EndsNext ends task file) file

  -- after all files: the groups of those that are the same game were written, unless the writer
  -- failed or memory ran out, which was reported; for another task nothing is done
  abbrev pub Closes : Task → ℕ → World I (W × List HashedFile) E → World I (W × List HashedFile) E
      → Type 0
  Closes (Task.Duplicates names end) status a b = (result : Result Bool RunFault)
      × (b.inputs ≡ a.inputs) × Writes writer (λ apart text.
      (apart ≡ not (list_any has_two (named_groups a.output.1)))
      × (text ≡ groups_text end (filter has_two (named_groups a.output.1))))
      (λ why. why ≡ RunFault.Memory) result a.output.0 b.output.0
      × Ends (IsReported errors []) answer_status result (kept_at_first explain) status
      a.errors b.errors
  Closes task status a b = (status ≡ 0) × (b ≡ a)

  -- the task of several files: none has a hash at first
  abbrev pub Does : Task → List CollectionFile → ℕ → World I W E → World I W E → Type 0
  Does task files status a b = (hashed : List HashedFile) × GoesOver (DoesNext task) (Closes task)
      files 0 status (with_hashed [] a) (with_hashed hashed b)

  pub data PerformsAll (task : Task) (paths : Paths) (status : ℕ) (a b : World I W E)
      : Type 0 where
    -- the files are found, before any of them is opened; folders that were named and have none are
    -- reported, as far as the writer allowed; and the task was done for the files
    found : (names : List (List ℕ)) (files : List CollectionFile) (report : List ℕ)
        (mid : World I W E) → AreNames opener reader paths (Ok names) a.inputs mid.inputs
        → mid.output ≡ a.output → (seen : Seen)
        → AreLedTo opener mid.inputs (repeats_of task) names seen files report
        → IsSent errors report a.errors mid.errors
        → Does task files status mid b → PerformsAll task paths status a b
    -- they are not, or memory for that report ran out, which was reported
    unlisted : (fault : RunFault) → AreNames opener reader paths (Err fault) a.inputs b.inputs
        → b.output ≡ a.output
        → IsListReport errors explain fault paths status a.errors b.errors
        → PerformsAll task paths status a b

  abbrev pub Performs : Job → ℕ → World I W E → World I W E → Type 0
  Performs (Job.Canon input names) = PerformsOne (OneTask.Canon names) input
  Performs (Job.Check input) = PerformsOne OneTask.Check input
  Performs (Job.Table input reduced) = PerformsOne
      (OneTask.Table (if reduced then Strategies.Reduced else Strategies.Pure)) input
  Performs (Job.Same first second map names) =
      PerformsTwo map names (string_bytes first) (string_bytes second)
  Performs (Job.CheckCanon files names) =
      PerformsAll (Task.Lines (FileLine.NotCanonical names)) files
  Performs (Job.WriteCanon files names) = PerformsAll (Task.Rewrites names) files
  Performs (Job.CheckAll files) = PerformsAll (Task.Lines FileLine.Kind) files
  Performs (Job.Hash files names end) = PerformsAll (Task.Lines (FileLine.Hash names end)) files
  Performs (Job.Duplicates files names end) = PerformsAll (Task.Duplicates names end) files
