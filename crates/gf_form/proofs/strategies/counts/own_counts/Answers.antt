use Rattle.gf_form.proofs.Common.{add-one, arith, take-suc}
use Rattle.gf_form.proofs.lemmas.strategies.CountedActions.{count_at, product_more, sets_counted}
use Rattle.gf_form.proofs.lemmas.strategies.CountedActions.{count_steps}
use Rattle.gf_form.proofs.strategies.counts.own_counts.Goals as goal

pub loop-before-preserved : goal.loop-before-preserved
loop-before-preserved c = grind (arith, take-suc, add-one, product_more, count_at, sets_counted)

pub times-requires : goal.times-requires
times-requires c = grind (arith, count_steps)

pub returns-in_default : goal.returns-in_default
returns-in_default c = grind (arith, count_steps)

pub returns : goal.returns
returns c = grind (arith, count_steps)
