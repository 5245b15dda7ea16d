use Rattle.gf_form.proofs.Common.{all_zipped_more, numbers_joined, map-append, length, arith, ◌≡◌}
use Rattle.gf_form.proofs.lemmas.strategies.CountedActions.{all_counted}
use Rattle.gf_form.proofs.lemmas.reduced.FirstStrategies.{first_steps}
use Rattle.gf_form.proofs.reduced.first.all_reduced.Goals as goal

pub overflow_cast-player : goal.overflow_cast-player
overflow_cast-player c = grind (arith, first_steps)

pub overflow_add-player : goal.overflow_add-player
overflow_add-player c = grind (arith, first_steps)

pub loop-place-preserved : goal.loop-place-preserved
loop-place-preserved c =
    let numbers = numbers_joined 1 c.loop-place.place 1 in
    grind (arith, numbers, all_zipped_more, map-append)

pub returns : goal.returns
returns c =
    let all : c.loop-place.place ≡ length c.args.game.now.players =
    omega (
      arith,
      c.loop-place-test.false,
      c.loop-place.auto.place-end,
      all_counted c.args.game.now c.args.counts.now c.requires.counts,
    ) in
    let done = rw all at c.loop-place.invariant in record { firsts = done.0; labels = done.1 }
