use Rattle.gf_nfg.proofs.lemmas.texts.OneTable.{equal_texts, equal_texts_of_files}
use Rattle.gf_nfg.proofs.laws.equal_texts.Goals as goal

pub returns-clause-of_tables : goal.returns-clause-of_tables
returns-clause-of_tables c = equal_texts

pub returns-clause-of_files : goal.returns-clause-of_files
returns-clause-of_files c = equal_texts_of_files
