use Rattle.gf_nfg.proofs.lemmas.places.Judged.{memory_at_end}
use Rattle.gf_nfg.proofs.lemmas.places.Led.{spells_one_table}
use Rattle.gf_nfg.proofs.read.list_nfg.Goals as goal

pub returns-in-Ok-clause-spelled : goal.returns-in-Ok-clause-spelled
returns-in-Ok-clause-spelled c = (c.in-Ok.ensures _ c.in_ok-heading.ensures.told).0

pub returns-in-Ok-clause-within : goal.returns-in-Ok-clause-within
returns-in-Ok-clause-within c = (c.in-Ok.ensures _ c.in_ok-heading.ensures.told).1

pub returns-in-Ok-clause-only : goal.returns-in-Ok-clause-only
returns-in-Ok-clause-only c = λ t spells within.
    spells_one_table _ _ t (c.in-Ok.ensures _ c.in_ok-heading.ensures.told).0 spells

pub returns-in-Err-clause-judged : goal.returns-in-Err-clause-judged
returns-in-Err-clause-judged c =
    let m = c.in_ok-heading.ensures.told.means in
    memory_at_end _ _ _ _ m.spelled m.within c.at_end.ensures c.into.ensures
