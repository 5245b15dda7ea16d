-- The command line, as `clap` reads it: the commands, and the options and arguments of each, in
-- order.
use Rattle.std.specs.Prelude.{◌≡◌, ◌&&◌, ℕ, Bool, List, [], ◌∷◌, Some, codes, true, false}
use Rattle.clap.specs.Lexer.{usize_max}
use Rattle.clap.specs.Simple.{App, Shape, matches_of, new_rule, new_shape, subcommand_of}
use Rattle.clap.specs.Takes.{takes}
use Rattle.clap.specs.Walk.{Rule, Text}
use Rattle.clap.specs.declared.builder.action.ArgAction.{ArgAction}
use Rattle.gf_words.specs.Request.{IsRequestOf, request_fits}
use Rattle.gf_words.specs.declared.job.Job.{Job}
use Rattle.gf_words.specs.declared.job.Request.{Request}

-- ---- the forms of arguments

-- `--name`
abbrev pub flag : Text → Rule
flag name = record (new_rule name) { long = Some name; action = Some ArgAction.SetTrue }

-- `--name`, or a letter
abbrev pub flag_or_letter : Text → ℕ → Rule
flag_or_letter name letter = record (flag name) { short = Some letter }

-- `--name` with a value
abbrev pub option : Text → Rule
option name = record (new_rule name) { long = Some name; value_names = 1 }

-- a value that has to be there
abbrev pub required : Text → Rule
required name = record (new_rule name) { required = true }

-- any number of values
abbrev pub many : Text → Rule
many name = record (new_rule name) {
  range = Some (record { start_inclusive = 0; end_inclusive = usize_max });
  value_names = 1;
}

-- the argument rules out or needs another, which a parse checks after it has read the words
abbrev pub tied : Rule → Rule
tied rule = record rule { is_free = false }

-- ---- the commands

abbrev pub no_names : Rule
no_names = flag (codes "no-names")

abbrev pub explain : Rule
explain = flag (codes "explain")

abbrev pub file : Rule
file = new_rule (codes "FILE")

abbrev pub quiet : Rule
quiet = flag (codes "quiet")

abbrev pub files : Rule
files = many (codes "FILES")

abbrev pub of_files : List Rule
of_files = no_names ∷ tied (option (codes "files-from")) ∷ tied (flag_or_letter (codes "null") 48)
    ∷ flag_or_letter (codes "zero") 122 ∷ explain ∷ quiet ∷ files ∷ []

abbrev pub command : Text → List Rule → Shape
command name rules = record (new_shape name) { rules = rules }

abbrev pub commands : List Shape
commands = command (codes "canon") (flag (codes "check") ∷ flag (codes "write") ∷ no_names
    ∷ explain ∷ quiet ∷ files ∷ [])
    ∷ command (codes "check") (explain ∷ quiet ∷ files ∷ [])
    ∷ command (codes "table") (flag (codes "reduced") ∷ explain ∷ file ∷ [])
    ∷ command (codes "same") (flag (codes "map") ∷ tied no_names ∷ explain ∷ required (codes "A")
    ∷ required (codes "B") ∷ [])
    ∷ command (codes "hash") of_files
    ∷ command (codes "duplicates") of_files ∷ []

-- the words do not begin with the program's name
abbrev pub program : App
program = record {
  top = record (new_shape (codes "gamefile")) {
    is_leaf = false;
    no_binary_name = true;
    has_version = true;
  };
  subs = commands;
}

-- ---- what words ask for

abbrev pub IsRequestIn : List Text → Request → Type 0
IsRequestIn words = IsRequestOf (matches_of program words) (subcommand_of program words)

-- words that are not refused: these make a request of a command that has no tied argument, and
-- what they ask of it fits together
abbrev pub are_taken : List Text → Bool
are_taken words = takes program words
    && request_fits (matches_of program words) (subcommand_of program words)

-- the job of the request that words make
abbrev pub IsJobIn : List Text → Job → Type 0
IsJobIn words job = (request : Request) × (request.job ≡ job) × IsRequestIn words request
