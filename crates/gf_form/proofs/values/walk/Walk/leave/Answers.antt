use Rattle.gf_form.proofs.Common.{arith}
use Rattle.gf_form.proofs.lemmas.values.Walks.{below_players}
use Rattle.gf_form.proofs.lemmas.values.ValuesComputed.{none_stays}
use Rattle.gf_form.proofs.values.walk.Walk.leave.Goals as goal

pub draw-requires-clause-is_open : goal.draw-requires-clause-is_open
draw-requires-clause-is_open c =
    let is = rw c.in-Chance.is at c.requires.is_open in
    (is.0, c.in_ok-weigh-in-Chance.ensures.row _ is.1 (rw c.deref.ensures.value c.requires.row))

pub returns-in-Choice-clause-overflow : goal.returns-in-Choice-clause-overflow
returns-in-Choice-clause-overflow c h = rw c.in-Choice.is (c.close.ensures.overflow h)

pub returns-in_err-weigh-in-Chance-clause-overflow : goal.returns-in_err-weigh-in-Chance-clause-overflow
returns-in_err-weigh-in-Chance-clause-overflow c h =
    let lacks = c.in_err-weigh-in-Chance.ensures.overflow (grind arith) in
    (lacks.0, grind (arith, below_players), rw c.in-Chance.is (grind (arith, none_stays)))

pub returns-in_ok-push-in-Chance-clause-overflow :
    goal.returns-in_ok-push-in-Chance-clause-overflow
returns-in_ok-push-in-Chance-clause-overflow c h =
    let lacks = c.draw.ensures.overflow h in
    (lacks.0, lacks.1, rw c.in-Chance.is (grind (arith, lacks.2)))
