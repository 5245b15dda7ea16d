use Rattle.std.proofs.Common.{◌≡◌, take}
use Rattle.std.specs.Prelude.{false}
use Rattle.clap.specs.Simple.{app_of}
use Rattle.clap.specs.declared.builder.command.Command.TheViews.{out-Command}
use Rattle.gf_words.specs.inner.Table.{entry_shape, leaf}
use Rattle.gf_words.proofs.program.command_of.Given as goal

abbrev pub invariant-loop-argument : goal.invariant-loop-argument
invariant-loop-argument l = record {
  app : app_of l.command
      ≡ leaf (entry_shape l.entry.name.now (take l.argument-index l.entry.arguments.now));
  local : (out-Command l.command).has_globals ≡ false;
}
