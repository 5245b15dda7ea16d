use Rattle.clap.specs.Matches.{found_of}
use Rattle.clap.specs.Walk.{rows_of}
use Rattle.clap.specs.declared.parser.matches.ArgMatches.TheViews.{out-ArgMatches}
use Rattle.gf_words.proofs.Entered.{a_command, no_command}
use Rattle.gf_words.proofs.request.request_of.Goals as goal

pub returns-in-Some : goal.returns-in-Some
returns-in-Some c =
    let command = c.in-Some.command in
    let is = a_command (out-ArgMatches c.args.matches.now).subcommand command.0.now
    (rows_of (found_of command.1.now)) c.in-Some.ensures.name c.in-Some.ensures.rows in
    rw is c.request_by.ensures

pub returns-in-None : goal.returns-in-None
returns-in-None c =
    let is = no_command (out-ArgMatches c.args.matches.now).subcommand c.in-None.ensures.rows in
    rw is c.request_by-in-None.ensures
