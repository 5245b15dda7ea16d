use Rattle.std.proofs.Common.{◌≡◌, ◌∙◌, ap, map}
use Rattle.std.proofs.lemmas.Result.{IfOk-weaker}
use Rattle.clap.specs.Simple.{App}
use Rattle.gf_words.specs.CommandLine.{program}
use Rattle.gf_words.specs.inner.Table.{program_alone, shape_for, with_commands}
use Rattle.gf_words.proofs.program.gamefile.Goals as goal

pub returns : goal.returns
returns c =
    let entries = c.as_slice.result.now in
    let whole : with_commands program_alone (map shape_for entries) ≡ program =
    ap (λ all. with_commands program_alone (map shape_for all)) c.as_slice.ensures in
    IfOk-weaker c.with_commands.result _ _ (λ command is.
    is ∙ (ap (λ (app : App). with_commands app (map shape_for entries)) c.in_ok-program.ensures
    ∙ whole)) c.with_commands.ensures
