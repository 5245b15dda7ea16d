use Rattle.gf_nfg.proofs.Common.{◌-◌, arith}
use Rattle.gf_nfg.proofs.lemmas.tables.Places.{AtPlayer, player_before, strategy_fits, strategy_in}
use Rattle.gf_nfg.proofs.lemmas.tables.Places.{strategy_out}
use Rattle.gf_nfg.proofs.table.profile.place_of.Goals.{After-strategies-count}
use Rattle.gf_nfg.proofs.table.profile.place_of.Goals as goal

player : (c : After-strategies-count) → AtPlayer c.args.frame.now c.args.profile.now
    (c.loop-at.at - 1) c.loop-at.place c.strategies-count.result
player c = grind (arith, player_before)

pub returns-then-strategy-eq0 : goal.returns-then-strategy-eq0
returns-then-strategy-eq0 c =
    strategy_out (player (goal.at.returns-then-strategy-eq0 c).After-strategies-count)
    c.then-strategy-eq0.either

pub overflow_mul-place : goal.overflow_mul-place
overflow_mul-place c =
    let fits = strategy_fits (player (goal.at.overflow_mul-place c).After-strategies-count)
    (omega (arith, c.if-strategy-eq0.false)) c.if-strategy-count.false in
    omega (arith, fits)

pub loop-at-preserved : goal.loop-at-preserved
loop-at-preserved c = strategy_in (player (goal.at.loop-at-preserved c).After-strategies-count)
    (omega (arith, c.if-strategy-eq0.false)) c.if-strategy-count.false
