use Rattle.gf_nfg.proofs.Common.{arith}
use Rattle.gf_nfg.proofs.lemmas.tables.LabelLists.{joined_labels}
use Rattle.gf_nfg.proofs.table.labels.write_joined.Goals as goal

pub returns-in_ok-write_dashed-in-Some : goal.returns-in_ok-write_dashed-in-Some
returns-in_ok-write_dashed-in-Some c = grind (arith, joined_labels)
