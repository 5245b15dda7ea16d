use Rattle.gf_nfg.proofs.Common.{append_assoc, arith, get_or_from_slice_get, common_steps}
use Rattle.gf_nfg.proofs.lemmas.texts.Pieces.{name_next, names_closed}
use Rattle.gf_nfg.proofs.text.write.write_players.Goals as goal

pub loop-at-preserved : goal.loop-at-preserved
loop-at-preserved c = (
  grind (arith, append_assoc, get_or_from_slice_get, name_next),
  grind (arith, common_steps),
)

pub returns-clause-text : goal.returns-clause-text
returns-clause-text c = grind (arith, names_closed)
