use Rattle.gf_form.proofs.Common.{[], arith, length-map}
use Rattle.gf_form.proofs.lemmas.strategies.CountedActions.{own_read}
use Rattle.gf_form.proofs.lemmas.strategies.Chosen.{zip_counted}
use Rattle.gf_form.proofs.strategies.valid.are_strategies.Goals as goal

pub returns-then-not-is_strategy-clause-complete
    : goal.returns-then-not-is_strategy-clause-complete
returns-then-not-is_strategy-clause-complete c few all =
    let choices = c.args.choices.now in
    let here = zip_counted _ [] _ _ all c.loop-before.before (grind (arith, length-map)) in
    let own = own_read choices _ _ _ c.loop-before-test.true c.index-choices-before.is
    c.deref.ensures.value in
    grind (arith, here, own, c.is_strategy.ensures, c.in-Ok.ensures)
