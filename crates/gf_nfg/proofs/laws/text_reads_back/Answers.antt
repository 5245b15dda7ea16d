use Rattle.gf_nfg.proofs.lemmas.texts.OneTable.{text_reads_back, text_again}
use Rattle.gf_nfg.proofs.laws.text_reads_back.Goals as goal

pub returns-clause-reads_back : goal.returns-clause-reads_back
returns-clause-reads_back c = text_reads_back

pub returns-clause-again : goal.returns-clause-again
returns-clause-again c = text_again
