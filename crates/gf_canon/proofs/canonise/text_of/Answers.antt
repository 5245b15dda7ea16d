use Rattle.gf_canon.proofs.lemmas.files.Judged.{text_of_table}
use Rattle.gf_canon.proofs.canonise.text_of.Goals as goal

pub returns-in-Strategic-clause-text : goal.returns-in-Strategic-clause-text
returns-in-Strategic-clause-text c =
    text_of_table (λ text. text.rest) c.args.names c.args.input.now c.canonical_nfg.result
    c.canonical_nfg.ensures.text
