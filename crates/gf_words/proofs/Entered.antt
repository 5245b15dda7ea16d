-- The command that matches hold, by its name and by its rows.
use Rattle.std.proofs.Common.{◌≡◌, List, refl}
use Rattle.std.specs.Prelude.{Box, Option, Some, None, option_map}
use Rattle.std.specs.Box.{box_value}
use Rattle.clap.specs.Simple.{subcommand_rows}
use Rattle.clap.specs.Walk.{Row, Text}
use Rattle.clap.specs.declared.parser.matches.ArgMatches.TheViews.{out-SubCommand}
use Rattle.clap.specs.declared.parser.matches.SubCommand.{SubCommand}

pub a_command : {Z : Type 0} (command : Option (Box SubCommand Z)) (name : Text) (rows : List Row)
    → Some name ≡ option_map (λ b. (out-SubCommand (box_value b)).name.now) command
    → Some rows ≡ option_map (λ p. p.1) (subcommand_rows command)
    → subcommand_rows command ≡ Some (name, rows)
a_command None name rows is_name are_rows = cc
a_command (Some b) name rows is_name are_rows = cc

pub no_command : {Z : Type 0} (command : Option (Box SubCommand Z))
    → None ≡ option_map (λ p. p.1) (subcommand_rows command)
    → subcommand_rows command ≡ None
no_command None none = refl
no_command (Some b) none = cc
