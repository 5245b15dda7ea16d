use Rattle.gf_nfg.proofs.Common.{arith}
use Rattle.gf_nfg.proofs.lemmas.tables.Pieces.{rises-push}
use Rattle.gf_nfg.proofs.lemmas.texts.SharedLines.{line_grows}
use Rattle.gf_nfg.proofs.text.lines.Lines.push.Goals as goal

pub invariant_of-self-2 : goal.invariant_of-self-2
invariant_of-self-2 c = grind (arith, rises-push, line_grows)
