use Rattle.gf_form.proofs.Common.{common_steps, arith, refl}
use Rattle.gf_form.proofs.lemmas.strategies.StrategiesByNumber.{goes_on}
use Rattle.gf_form.proofs.strategies.numbered.write_strategy.Goals as goal

pub loop-count-preserved : goal.loop-count-preserved
loop-count-preserved c =
    rw (c.in_ok-push.ensures.items, c.quotient-stride.ensures)
    (goes_on _ _ _ _ _ _ _ c.loop-count.invariant c.loop-count-test.true refl)

pub quotient-stride-requires : goal.quotient-stride-requires
quotient-stride-requires c = grind (arith, common_steps)

pub nonzero_div-rest : goal.nonzero_div-rest
nonzero_div-rest c = grind (arith, common_steps)

pub nonzero_rem-rest : goal.nonzero_rem-rest
nonzero_rem-rest c = grind (arith, common_steps)

pub returns : goal.returns
returns c = grind (arith, common_steps)
