use Rattle.std.proofs.lemmas.Result.{IfOk-weaker}
use Rattle.gf_canon.specs.MeaningOf.{file_of}
use Rattle.gf_canon.proofs.numbering.pairs.pairs_of_files.Goals as goal

pub returns-in-Ok-clause-told : goal.returns-in-Ok-clause-told
returns-in-Ok-clause-told g c = IfOk-weaker c.pairs_beside-told.result _ _
    (λ same says. (file_of c.in-Ok.first, says.0, c.in-Ok.ensures.spelled, says.1, says.2, says.3))
    c.pairs_beside-told.ensures.told
