use Rattle.gf_nfg.proofs.Common.{◌∙◌}
use Rattle.gf_nfg.proofs.lemmas.places.Judged.{memory_at_end}
use Rattle.gf_nfg.proofs.lemmas.places.Led.{spells_one_table}
use Rattle.gf_nfg.proofs.lemmas.tables.Told.{kept_means}
use Rattle.gf_nfg.proofs.read.read_nfg.Goals as goal

pub returns-in-Ok-clause-only : goal.returns-in-Ok-clause-only
returns-in-Ok-clause-only c = λ t spells within.
    c.in-Ok.ensures
    ∙ spells_one_table _ _ t (kept_means _ _ _ c.in_ok-heading.ensures.told).spelled spells

pub returns-in-Err-clause-judged : goal.returns-in-Err-clause-judged
returns-in-Err-clause-judged c =
    let h = kept_means _ _ _ c.in_ok-heading.ensures.told in
    memory_at_end _ _ _ _ h.spelled h.within c.at_end.ensures c.into.ensures
