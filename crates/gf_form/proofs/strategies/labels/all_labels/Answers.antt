use Rattle.gf_form.proofs.Common.{arith, strategy_labels}
use Rattle.gf_form.proofs.lemmas.strategies.CountedActions.{next_player, all_counted}
use Rattle.gf_form.proofs.strategies.labels.all_labels.Goals as goal

pub loop-place-preserved : goal.loop-place-preserved
loop-place-preserved c g counts =
    let next = next_player g (strategy_labels g) c.loop-place.place in
    let given = c.of_player-whole.ensures.counts g counts in
    let before = c.loop-place.invariant g counts in
    grind (arith, next, given, before, all_counted g c.args.counts.now counts)
