use Rattle.gf_form.proofs.Common.{length-profiles, common_steps, length-map, map-append, arith}
use Rattle.gf_form.proofs.lemmas.rows.Digits.{product_joined}
use Rattle.gf_form.proofs.lemmas.strategies.CountedActions.{as_many_players, next_player, take_past}
use Rattle.gf_form.proofs.lemmas.strategies.CountedActions.{strategy_counts, fits_so_far}
use Rattle.gf_form.proofs.strategies.counts.Counts.new.Goals as goal

pub returns-in_default : goal.returns-in_default
returns-in_default c =
    let fits = fits_so_far c.args.game.now c.loop-before.before c.players-players.ensures.is_game in
    grind (arith, fits, length-map, length-profiles, c.loop-before.profiles.some)

pub returns-in_default-times : goal.returns-in_default-times
returns-in_default-times c = grind (arith, fits_so_far, length-map, length-profiles)

pub loop-before-preserved : goal.loop-before-preserved
loop-before-preserved c = grind (arith, next_player, product_joined, map-append, length-map)

pub returns : goal.returns
returns c = grind (arith, length-map, take_past, strategy_counts, as_many_players, length-profiles)

pub overflow_cast-before : goal.overflow_cast-before
overflow_cast-before c = grind (arith, common_steps)

pub overflow_add-before : goal.overflow_add-before
overflow_add-before c = grind (arith, common_steps)
