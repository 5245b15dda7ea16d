-- The command line that the table of commands describes.
use Rattle.std.specs.Prelude.{true, ◌&&◌, List, [], ◌∷◌, codes, map}
use Rattle.clap.specs.Simple.{App, Shape, new_rule, new_shape, with_subcommand}
use Rattle.clap.specs.Walk.{Rule, Text, is_empty}
use Rattle.gf_words.specs.CommandLine.{command, flag, flag_or_letter, many, option, required}
use Rattle.gf_words.specs.declared.commands.Argument.{Argument}
use Rattle.gf_words.specs.declared.commands.Entry.{Entry}
use Rattle.gf_words.specs.declared.commands.Form.{Form}

abbrev pub form_rule : Form → Text → Rule
form_rule Form.Flag name = flag name
form_rule (Form.FlagOrLetter letter) name = flag_or_letter name letter
form_rule (Form.Option value) name = option name
form_rule Form.Optional name = new_rule name
form_rule Form.Required name = required name
form_rule (Form.Many value) name = many name

abbrev pub argument_rule : Argument → Rule
argument_rule argument = record (form_rule argument.form argument.name.now) {
  is_free = is_empty argument.excludes.now && is_empty argument.needs.now;
}

abbrev pub entry_shape : Text → List Argument → Shape
entry_shape name arguments = command name (map argument_rule arguments)

abbrev pub shape_for : Entry → Shape
shape_for entry = entry_shape entry.name.now entry.arguments.now

-- a command that has no commands of its own
abbrev pub leaf : Shape → App
leaf shape = record { top = shape; subs = [] }

abbrev pub with_commands : App → List Shape → App
with_commands app [] = app
with_commands app (shape ∷ shapes) = with_commands (with_subcommand app shape) shapes

-- the program before its commands are added
abbrev pub program_alone : App
program_alone = leaf (record (new_shape (codes "gamefile")) {
  no_binary_name = true;
  has_version = true;
})
