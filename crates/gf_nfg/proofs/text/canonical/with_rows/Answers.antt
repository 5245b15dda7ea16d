use Rattle.gf_nfg.proofs.Common.{arith}
use Rattle.gf_nfg.proofs.lemmas.texts.PayoffLines.{text_of_rows}
use Rattle.gf_nfg.proofs.text.canonical.with_rows.Goals as goal

pub returns-clause-rest : goal.returns-clause-rest
returns-clause-rest c = grind (arith, text_of_rows c.args.t c.frame.result.now)
