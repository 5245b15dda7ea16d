use Rattle.gf_nfg.proofs.Common.{arith}
use Rattle.gf_nfg.proofs.lemmas.texts.SharedLines.{next_chosen}
use Rattle.gf_nfg.proofs.text.lines.Lines.append_until.Goals as goal

pub unwrap-requires : goal.unwrap-requires
unwrap-requires c = grind (arith, next_chosen)

pub loop-place-preserved : goal.loop-place-preserved
loop-place-preserved c = grind (arith, next_chosen)
