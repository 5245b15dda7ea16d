use Rattle.std.proofs.Common.{◌∙◌, ap, ap₂, get_or, sym, take}
use Rattle.std.proofs.lemmas.List.{take_more}
use Rattle.std.specs.Prelude.{◌||◌}
use Rattle.clap.specs.Built.{AddsArg}
use Rattle.gf_words.specs.inner.Table.{entry_shape, leaf}
use Rattle.gf_words.proofs.Added.{no_argument, one_argument}
use Rattle.gf_words.proofs.program.command_of.Goals as goal

pub loop-argument-preserved : goal.loop-argument-preserved
loop-argument-preserved c =
    let name = c.args.entry.now.name.now in
    let arguments = c.args.entry.now.arguments.now in
    let i = c.loop-argument.argument-index in
    let added : AddsArg c.loop-argument.command c.in_ok-arg.arg c.in_ok-command.command =
    c.in_ok-command.ensures in
    let more = one_argument name (take i arguments) (get_or arguments i no_argument) _ _
    c.loop-argument.invariant.app c.in_ok-arg.ensures.0 in record {
      app = added.shape c.in_ok-arg.ensures.1
          ∙ (more ∙ ap (λ seen. leaf (entry_shape name seen))
          (sym (take_more arguments i no_argument c.loop-argument-test.true)));
      local = added.globals ∙ ap₂ ◌||◌ c.loop-argument.invariant.local c.in_ok-arg.ensures.1;
    }
