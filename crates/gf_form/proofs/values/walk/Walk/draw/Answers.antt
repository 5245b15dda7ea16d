use Rattle.gf_form.proofs.Common.{arith}
use Rattle.gf_form.proofs.lemmas.values.Walks.{none_left}
use Rattle.gf_form.proofs.values.walk.Walk.draw.Goals as goal

pub returns-in-None-clause-overflow : goal.returns-in-None-clause-overflow
returns-in-None-clause-overflow c h =
    let lacks = c.close.ensures.overflow h in
    (lacks.0, lacks.1, grind (arith, none_left, lacks.2))
