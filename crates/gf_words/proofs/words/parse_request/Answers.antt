use Rattle.std.proofs.Common.{◌∙◌, ap, map}
use Rattle.clap.specs.Simple.{App}
use Rattle.clap.specs.Takes.{takes}
use Rattle.gf_words.proofs.Simple.{asked_in, taken_by_clap}
use Rattle.gf_words.proofs.words.parse_request.Goals as goal

pub returns-in-Ok-clause-request : goal.returns-in-Ok-clause-request
returns-in-Ok-clause-request c =
    (asked_in _ _ c.in-Ok.matches _ c.in_ok-program.ensures c.in-Ok.ensures.matches
    c.request_of.ensures).0

pub returns-in-Ok-clause-taken : goal.returns-in-Ok-clause-taken
returns-in-Ok-clause-taken c =
    (asked_in _ _ c.in-Ok.matches _ c.in_ok-program.ensures c.in-Ok.ensures.matches
    c.request_of.ensures).1

pub returns-in-Err-clause-taken : goal.returns-in-Err-clause-taken
returns-in-Err-clause-taken c taken =
    let words = map (λ word. word.now) c.args.words.now in
    c.fault_of.ensures (c.in-Err.ensures.passes
    (ap (λ (app : App). takes app words) c.in_ok-program.ensures ∙ taken_by_clap words taken))
