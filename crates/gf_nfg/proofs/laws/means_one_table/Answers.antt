use Rattle.gf_nfg.proofs.lemmas.places.Led.{spells_one_table}
use Rattle.gf_nfg.proofs.lemmas.runs.Sentence.{one_table}
use Rattle.gf_nfg.proofs.laws.means_one_table.Goals as goal

pub returns-clause-of_tokens : goal.returns-clause-of_tokens
returns-clause-of_tokens c = one_table

pub returns-clause-of_bytes : goal.returns-clause-of_bytes
returns-clause-of_bytes c = spells_one_table
