-- What words ask for, by what `clap` finds in them: a row for each option and argument of a
-- command, with its texts. That of a flag is `true` if it is given.
use Rattle.std.specs.Prelude.{◌≡◌, Bool, true, false, List, [], ◌∷◌, Option, Some, None, map}
use Rattle.std.specs.Prelude.{codes, if◌then◌else◌, not, ◌&&◌, ◌||◌, option_map, unwrap_or}
use Rattle.std.specs.List.{list_any}
use Rattle.std.specs.Option.{option_map_or}
use Rattle.std.specs.Str.{bytes_eq}
use Rattle.std.specs.String.{string_bytes}
use Rattle.clap.specs.Walk.{Row, Text, all_of, first_of}
use Rattle.gf_token.specs.declared.names.Names.{Names}
use Rattle.gf_words.specs.declared.job.Input.{Input}
use Rattle.gf_words.specs.declared.job.Job.{Job}
use Rattle.gf_words.specs.declared.job.LineEnd.{LineEnd}
use Rattle.gf_words.specs.declared.job.Paths.{Paths}
use Rattle.gf_words.specs.declared.job.Request.{Request}

-- a flag is given
abbrev pub has_flag : Text → List Row → Bool
has_flag flag rows = option_map_or (λ t. bytes_eq t (codes "true")) (first_of flag rows) false

-- names count, unless they are left aside
abbrev pub names_of : List Row → Names
names_of rows = if has_flag (codes "no-names") rows then Names.Aside else Names.Kept

-- the name of an input; standard input has none
abbrev pub input_name : Input → Option Text
input_name Input.Standard = None
input_name (Input.File name) = Some (string_bytes name)

-- a word for standard input
abbrev pub is_dash : Text → Bool
is_dash word = bytes_eq word (codes "-")

-- the name of the file that a word names
abbrev pub named : Text → Option Text
named word = if is_dash word then None else Some word

-- NUL if a flag is given, otherwise a line feed
abbrev pub end_by : Text → List Row → LineEnd
end_by flag rows = if has_flag flag rows then LineEnd.Null else LineEnd.LineFeed

-- several files are those of the list, if there is one, or those that are named, if any
-- are; or else standard input
abbrev pub ArePathsOf : List Row → Paths → Type 0
ArePathsOf rows Paths.Standard =
    (first_of (codes "files-from") rows ≡ None) × (all_of (codes "FILES") rows ≡ None)
ArePathsOf rows (Paths.Named names) = (first_of (codes "files-from") rows ≡ None)
    × (all_of (codes "FILES") rows ≡ Some (map string_bytes names.items))
ArePathsOf rows (Paths.List list end) =
    (option_map named (first_of (codes "files-from") rows) ≡ Some (input_name list))
    × (end ≡ end_by (codes "null") rows)

-- the one input of a command: the one that is named, or standard input
abbrev pub IsInputOf : Option Text → Input → Type 0
IsInputOf None read = input_name read ≡ None
IsInputOf (Some word) read = input_name read ≡ named word

-- the file that has to be named by this argument
abbrev pub file_named : Text → List Row → Text
file_named id rows = unwrap_or (first_of id rows) []

abbrev pub IsSameOf : List Row → Job → Type 0
IsSameOf rows (Job.Same a b map names) = (string_bytes a ≡ file_named (codes "A") rows)
    × (string_bytes b ≡ file_named (codes "B") rows) × (map ≡ has_flag (codes "map") rows)
    × (names ≡ names_of rows)
IsSameOf rows _ = ⊥

-- of the words for files there is none, or this one alone
abbrev pub IsAlone : Option (List Text) → Input → Type 0
IsAlone None read = IsInputOf None read
IsAlone (Some (word ∷ [])) read = IsInputOf (Some word) read
IsAlone (Some words) read = ⊥

-- no file is named, or one
abbrev pub is_one_at_most : Option (List Text) → Bool
is_one_at_most None = true
is_one_at_most (Some (word ∷ [])) = true
is_one_at_most (Some words) = false

abbrev pub IsCheckOf : List Row → Job → Type 0
IsCheckOf rows (Job.Check read) = IsAlone (all_of (codes "FILES") rows) read
IsCheckOf rows (Job.CheckAll files) =
    (is_one_at_most (all_of (codes "FILES") rows) ≡ false) × ArePathsOf rows files
IsCheckOf rows _ = ⊥

-- files are named, and none of them is standard input
abbrev pub are_files : Option (List Text) → Bool
are_files None = false
are_files (Some words) = not (list_any is_dash words)

-- what `canon` is asked for fits together: not both to check and to write; files that can be
-- written; and one file at most for its text, without `--quiet`
abbrev pub canon_fits : List Row → Bool
canon_fits rows = if has_flag (codes "check") rows then not (has_flag (codes "write") rows)
    else if has_flag (codes "write") rows then are_files (all_of (codes "FILES") rows)
    else (not (has_flag (codes "quiet") rows) && is_one_at_most (all_of (codes "FILES") rows))

abbrev pub IsCanonOf : List Row → Job → Type 0
IsCanonOf rows (Job.Canon read names) = (has_flag (codes "check") rows ≡ false)
    × (has_flag (codes "write") rows ≡ false) × (has_flag (codes "quiet") rows ≡ false)
    × IsAlone (all_of (codes "FILES") rows) read × (names ≡ names_of rows)
IsCanonOf rows (Job.CheckCanon files names) = (has_flag (codes "check") rows ≡ true)
    × (has_flag (codes "write") rows ≡ false) × ArePathsOf rows files × (names ≡ names_of rows)
IsCanonOf rows (Job.WriteCanon files names) = (has_flag (codes "check") rows ≡ false)
    × (has_flag (codes "write") rows ≡ true) × (are_files (all_of (codes "FILES") rows) ≡ true)
    × ArePathsOf rows files × (names ≡ names_of rows)
IsCanonOf rows _ = ⊥

-- the commands but for `canon`
abbrev pub other_commands : List Text
other_commands = codes "check" ∷ codes "table" ∷ codes "same" ∷ codes "hash"
    ∷ codes "duplicates" ∷ []

abbrev pub IsNamed : Text → Text → Type 0
IsNamed name word = bytes_eq name word ≡ true

-- the job of the command of this name
abbrev pub IsJobOf : Text → List Row → Job → Type 0
IsJobOf name rows (Job.Check read) =
    IsNamed name (codes "check") × IsCheckOf rows (Job.Check read)
IsJobOf name rows (Job.CheckAll files) =
    IsNamed name (codes "check") × IsCheckOf rows (Job.CheckAll files)
IsJobOf name rows (Job.Table read reduced) = IsNamed name (codes "table")
    × IsInputOf (first_of (codes "FILE") rows) read × (reduced ≡ has_flag (codes "reduced") rows)
IsJobOf name rows (Job.Same a b map names) =
    IsNamed name (codes "same") × IsSameOf rows (Job.Same a b map names)
IsJobOf name rows (Job.Hash files names end) = IsNamed name (codes "hash")
    × ArePathsOf rows files × (names ≡ names_of rows) × (end ≡ end_by (codes "zero") rows)
IsJobOf name rows (Job.Duplicates files names end) = IsNamed name (codes "duplicates")
    × ArePathsOf rows files × (names ≡ names_of rows) × (end ≡ end_by (codes "zero") rows)
IsJobOf name rows job =
    (list_any (bytes_eq name) other_commands ≡ false) × IsCanonOf rows job

abbrev pub IsRequestBy : Text → List Row → Request → Type 0
IsRequestBy name rows request =
    IsJobOf name rows request.job × (request.explain ≡ has_flag (codes "explain") rows)
    × (request.quiet ≡ has_flag (codes "quiet") rows)

-- the request of a command, or of no command: that is `canon`
abbrev pub IsRequestOf : List Row → Option (Text × List Row) → Request → Type 0
IsRequestOf rows None request = IsRequestBy (codes "canon") rows request
IsRequestOf rows (Some command) request = IsRequestBy command.0 command.1 request

-- what a command is asked for fits together
abbrev pub command_fits : Text → List Row → Bool
command_fits name rows = list_any (bytes_eq name) other_commands || canon_fits rows

abbrev pub request_fits : List Row → Option (Text × List Row) → Bool
request_fits rows None = command_fits (codes "canon") rows
request_fits rows (Some command) = command_fits command.0 command.1
