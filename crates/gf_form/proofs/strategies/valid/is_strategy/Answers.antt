use Rattle.gf_form.proofs.Common.{arith, cases_lt, length-map}
use Rattle.gf_form.proofs.lemmas.strategies.CountedActions.{action_within, choice_by_places}
use Rattle.gf_form.proofs.lemmas.strategies.CountedActions.{count_at}
use Rattle.gf_form.proofs.strategies.valid.is_strategy.Goals as goal

pub returns : goal.returns
returns c = grind (arith, choice_by_places, length-map)

pub returns-then-action-eq0 : goal.returns-then-action-eq0
returns-then-action-eq0 c = (
  λ f. absurd cc,
  λ all.
      let here = action_within c.args.strategy.now _ c.loop-before.before all
      c.loop-before-test.true in
      absurd (grind (arith, count_at)),
)

pub loop-before-preserved : goal.loop-before-preserved
loop-before-preserved c = grind (arith, cases_lt, count_at)
