use Rattle.std.proofs.Common.{◌≢◌, rules}
use Rattle.std.proofs.lemmas.List.{take_min}
use Rattle.std.proofs.lemmas.Result.{IfOk-weaker}
use Rattle.gf_token.specs.declared.fault.Why.TheVariants.{TooLong}
use Rattle.gf_explain.specs.Explained.{placed}
use Rattle.gf_explain.proofs.text.where_of.Goals as goal

pub returns : goal.returns
returns c =
    let at = take_min c.args.fault.now.span.start c.args.bytes.now in
    let place = rw (c.min.ensures, at) at c.place_after.ensures in
    let other : c.args.fault.now.why ≢ TooLong = search rules in
    IfOk-weaker c.placed.result _ _ (λ text is. placed c.place_after.result other place is)
    c.placed.ensures
