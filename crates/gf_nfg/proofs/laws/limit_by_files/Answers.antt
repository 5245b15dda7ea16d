use Rattle.gf_nfg.proofs.lemmas.places.Passes.{limit_by_files}
use Rattle.gf_nfg.proofs.lemmas.places.Judged.{at_second, nowhere}
use Rattle.gf_nfg.proofs.laws.limit_by_files.Goals as goal

pub returns-clause-of_files : goal.returns-clause-of_files
returns-clause-of_files c = limit_by_files

pub returns-clause-at_second : goal.returns-clause-at_second
returns-clause-at_second c = at_second

pub returns-clause-nowhere : goal.returns-clause-nowhere
returns-clause-nowhere c = nowhere
