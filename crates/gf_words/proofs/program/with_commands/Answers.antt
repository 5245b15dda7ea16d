use Rattle.std.proofs.Common.{◌∙◌, ap, get_or, map, sym, take}
use Rattle.std.proofs.lemmas.List.{take_more}
use Rattle.clap.specs.Built.{AddsSubcommand}
use Rattle.clap.specs.Simple.{App, app_of}
use Rattle.gf_words.specs.inner.Table.{shape_for, with_commands}
use Rattle.gf_words.proofs.Added.{no_entry, one_entry}
use Rattle.gf_words.proofs.program.with_commands.Goals as goal

pub loop-entry-preserved : goal.loop-entry-preserved
loop-entry-preserved c =
    let app = app_of c.args.program in
    let entries = c.args.entries.now in
    let i = c.loop-entry.entry-index in
    let added : AddsSubcommand c.loop-entry.program c.in_ok-command.command
    c.in_ok-program.program =
    c.in_ok-program.ensures in
    let more = one_entry app (take i entries) (get_or entries i no_entry) _ _
    c.loop-entry.invariant (ap (λ (a : App). a.top) c.in_ok-command.ensures.0) in
    added.shape c.in_ok-command.ensures.1
    ∙ (more ∙ ap (λ seen. with_commands app (map shape_for seen))
    (sym (take_more entries i no_entry c.loop-entry-test.true)))
