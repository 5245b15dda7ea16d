use Rattle.gf_canon.proofs.lemmas.texts.Compared.{same_as_texts}
use Rattle.gf_canon.proofs.sameness.same.Goals as goal

pub returns-clause-texts : goal.returns-clause-texts
returns-clause-texts c = λ s t p q.
    same_as_texts c.same_by.result c.args.a.now c.args.b.now s t p q
    (c.same_by.ensures.same p.file q.file p.spelled q.spelled)
