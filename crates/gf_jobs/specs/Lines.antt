-- The names in a list, the line about one of several files, and the runs over one file by what is done.
use Rattle.std.specs.Prelude.{◌≡◌, ℕ, Bool, true, List, [], ◌∷◌, ◌++◌, ◌||◌, nat_eq, codes}
use Rattle.std.specs.Prelude.{filter, if◌then◌else◌, length, nat_lt, Result, Ok, ⊤, MatchResult}
use Rattle.std.specs.Io.BufRead.{strip_last}
use Rattle.std.specs.List.{flat_map, list_any, onto_first}
use Rattle.std.specs.Result.{result_and}
use Rattle.hex.specs.Hex.{encode_lower}
use Rattle.sha2.specs.Sha256.{sha256}
use Rattle.gf_token.specs.declared.names.Names.{Names}
use Rattle.gf_canon.specs.KindOfFile.{MeansFileOf}
use Rattle.gf_canon.specs.NamesAside.{IsTextBy}
use Rattle.gf_canon.specs.declared.kind.FileKind.{FileKind}
use Rattle.gf_explain.specs.Shown.{shown_name}
use Rattle.gf_words.specs.declared.job.LineEnd.{LineEnd}
use Rattle.gf_run.specs.Texts.{IsFaultOfFile, IsRefusal, AreCanonical, kind_line}
use Rattle.gf_run.specs.Run.{Reads, Runs, RunsCanonBy, RunsCheck, RunsTable}
use Rattle.gf_run.specs.Streams.{Stream, IsNotRead, IsReadWhole}
use Rattle.gf_run.specs.declared.fault.RunFault.{RunFault}
use Rattle.gf_run.specs.declared.fault.Which.{Which}
use Rattle.gf_jobs.specs.declared.collections.line.FileLine.{FileLine}
use Rattle.gf_jobs.specs.declared.jobs.one_file.OneTask.{OneTask}

-- ---- the end of a line, and the names in a list

-- the byte that ends a line
abbrev pub end_byte : LineEnd → ℕ
end_byte LineEnd.LineFeed = 10
end_byte LineEnd.Null = 0

-- the lines of a text; this byte ends each, and may be missing after the last one
abbrev pub lines_of : ℕ → List ℕ → List (List ℕ)
lines_of byte [] = []
lines_of byte (x ∷ xs) =
    if nat_eq x byte then [] ∷ lines_of byte xs else onto_first x (lines_of byte xs)

-- the name in a line, if it has one: where line feeds end lines, a carriage return at the end is left
-- out, and an empty line has no name
abbrev pub name_in : LineEnd → List ℕ → List (List ℕ)
name_in LineEnd.LineFeed line = filter (λ name. nat_lt 0 (length name)) (strip_last 13 line ∷ [])
name_in LineEnd.Null line = line ∷ []

-- the names in a list
abbrev pub names_in : LineEnd → List ℕ → List (List ℕ)
names_in end bytes = flat_map (name_in end) (lines_of (end_byte end) bytes)

-- ---- a name

-- a line feed, a carriage return or a backslash
abbrev pub is_escaped : ℕ → Bool
is_escaped byte = nat_eq byte 10 || nat_eq byte 13 || nat_eq byte 92

-- a byte of a name, as `sha256sum` writes it
abbrev pub byte_text : ℕ → List ℕ
byte_text byte = if nat_eq byte 10 then codes "\\n" else if nat_eq byte 13 then codes "\\r"
    else if nat_eq byte 92 then codes "\\\\" else byte ∷ []

-- The line of a name, after a text that stands before it. If a byte of the name is escaped, the line
-- begins with a backslash; in a line that NUL ends the name stands as it is.
abbrev pub name_line : LineEnd → List ℕ → List ℕ → List ℕ
name_line LineEnd.LineFeed before name = (if list_any is_escaped name then codes "\\" else [])
    ++ before ++ flat_map byte_text name ++ codes "\n"
name_line LineEnd.Null before name = before ++ name ++ 0 ∷ []

-- a text after the name of its file, as it is shown
abbrev pub after_name : List ℕ → List ℕ → List ℕ
after_name name text = shown_name name ++ codes ": " ++ text

-- ---- the line about a file

-- the bytes mean a file, and this is the hash of its canonical text
abbrev pub IsHashOf : Names → (bytes hash : List ℕ) → Type 0
IsHashOf names bytes hash = (text : List ℕ) × IsTextBy names bytes text × (hash ≡ sha256 text)

-- the text is what is written about a file of this name with these bytes; `good` is false if it is
-- named because something is against it
abbrev pub IsLineOf : FileLine → List ℕ → Bool → List ℕ → List ℕ → Type 0
IsLineOf FileLine.Kind name good bytes text = (good ≡ true) × ((kind : FileKind)
    × MeansFileOf bytes kind × (text ≡ after_name name (kind_line kind)))
IsLineOf (FileLine.Hash names end) name good bytes text = (good ≡ true) × ((hash : List ℕ)
    × IsHashOf names bytes hash × (text ≡ name_line end (encode_lower hash ++ codes "  ") name))
IsLineOf (FileLine.NotCanonical names) name good bytes text = AreCanonical names bytes good
    × (text ≡ if good then [] else name_line LineEnd.LineFeed [] name)

-- ---- the run over one file

-- its canonical text is hashed
abbrev pub ReadsHash : {R : Type 0} → Stream R → Names → Result (List ℕ) RunFault → R → R → Type 0
ReadsHash reader names = Reads (IsReadWhole reader) (IsNotRead reader Which.Only)
    (λ bytes result. MatchResult result (IsHashOf names bytes) (IsRefusal bytes)) (Unit {0})

module _ {R W : Type 0} (reader : Stream R) (writer : Stream W) where
  -- a run over one file by what is done with it; it returns no kind
  abbrev pub RunsOne : OneTask → Result ⊤ RunFault → R → R → W → W → Type 0
  RunsOne (OneTask.Canon names) = RunsCanonBy reader writer names
  RunsOne OneTask.Check = λ result i i' o o'.
      (kind : FileKind) × RunsCheck reader writer (result_and result (Ok kind)) i i' o o'
  RunsOne (OneTask.Table strategies) = RunsTable reader writer strategies

  -- `run_line`
  abbrev pub RunsLine : FileLine → List ℕ → Result Bool RunFault → R → R → W → W → Type 0
  RunsLine line name = Runs reader writer (IsLineOf line name) IsFaultOfFile
