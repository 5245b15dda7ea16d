use Rattle.gf_canon.proofs.canonise.canonical_text.Goals as goal
use Rattle.gf_canon.proofs.lemmas.files.Judged.{only_answer}

pub returns-clause-only : goal.returns-clause-only
returns-clause-only c = λ x.
    only_answer (λ text. text.rest) c.args.names c.args.input.now c.text_of.result x
    c.text_of.ensures.text c.text_of.ensures.refused
