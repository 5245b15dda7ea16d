use Rattle.gf_canon.proofs.lemmas.texts.ToldFiles.{means_file_of}
use Rattle.gf_canon.proofs.Common.{rules}
use Rattle.gf_canon.proofs.checking.check.Goals as goal

pub returns-clause-kind : goal.returns-clause-kind
returns-clause-kind c = search (rules, means_file_of)
