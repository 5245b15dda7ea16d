use Rattle.std.proofs.Common.{◌∙◌, ap, map}
use Rattle.std.specs.Prelude.{◌&&◌, Bool}
use Rattle.std.proofs.lemmas.Result.{IfOk-weaker}
use Rattle.clap.specs.Walk.{is_empty}
use Rattle.clap.specs.declared.builder.arg.ArgPredicate.{ArgPredicate}
use Rattle.gf_words.specs.inner.Table.{form_rule}
use Rattle.gf_words.proofs.Tied.{form_is_free, is_empty_map, still_local, tied_rule}
use Rattle.gf_words.proofs.program.argument_of.Goals as goal

pub returns : goal.returns
returns c =
    let argument = c.args.argument.now in
    let rule = form_rule argument.form argument.name.now in
    let free = form_is_free argument.form argument.name.now in
    let excludes = argument.excludes.now in
    let needs = map (λ name. (ArgPredicate.IsPresent, name)) argument.needs.now in
    let excluding = c.in_ok-excluding.excluding in
    let adds = c.in_ok-excluding.ensures in
    IfOk-weaker c.requires_all.result _ _ (λ arg wants. (
      tied_rule c.plain.result excluding arg rule excludes needs c.plain.ensures.rule free adds
          wants
          ∙ ap (λ (b : Bool). record rule { is_free = is_empty excludes && b })
          (is_empty_map (λ name. (ArgPredicate.IsPresent, name)) argument.needs.now),
      still_local c.plain.result excluding arg excludes needs c.plain.ensures.local adds wants,
    )) c.requires_all.ensures
