use Rattle.gf_nfg.proofs.Common.{arith}
use Rattle.gf_nfg.proofs.lemmas.tables.Made.{made_in_turn}
use Rattle.gf_nfg.proofs.table.Table.in_turn.Goals as goal

pub of_parts-requires : goal.of_parts-requires
of_parts-requires c = grind (arith, made_in_turn)

pub returns : goal.returns
returns c = grind (arith, made_in_turn)
