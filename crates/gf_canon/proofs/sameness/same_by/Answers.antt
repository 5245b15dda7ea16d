use Rattle.gf_canon.proofs.Common.{rules}
use Rattle.gf_canon.specs.MeaningOf.{file_of_listed}
use Rattle.gf_canon.proofs.lemmas.texts.Compared.{same_as_first, same_as_itself}
use Rattle.gf_canon.proofs.sameness.same_by.Goals as goal

pub returns-in-Ok-clause-same : goal.returns-in-Ok-clause-same
returns-in-Ok-clause-same c = λ x y of_x of_y. search (rules, same_as_itself)

pub returns-in-Ok-list_file-clause-same : goal.returns-in-Ok-list_file-clause-same
returns-in-Ok-list_file-clause-same c =
    same_as_first c.args.names c.same_as-answer.result c.args.a.now c.args.b.now
    (file_of_listed c.in-Ok-list_file.first) c.in-Ok-list_file.ensures.spelled
    c.same_as-answer.ensures.same c.same_as-answer.ensures.refused
