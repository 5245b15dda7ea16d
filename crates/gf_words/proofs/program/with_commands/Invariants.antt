use Rattle.std.proofs.Common.{◌≡◌, map, take}
use Rattle.clap.specs.Simple.{app_of}
use Rattle.gf_words.specs.inner.Table.{shape_for, with_commands}
use Rattle.gf_words.proofs.program.with_commands.Given as goal

abbrev pub invariant-loop-entry : goal.invariant-loop-entry
invariant-loop-entry l = app_of l.program
    ≡ with_commands (app_of l.initial.program) (map shape_for (take l.entry-index l.entries))
