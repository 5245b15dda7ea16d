use Rattle.gf_nfg.proofs.Common.{arith}
use Rattle.gf_nfg.proofs.lemmas.places.Judged.{carried}
use Rattle.gf_nfg.proofs.lemmas.runs.ReaderSteps.{first_opens, goes_back}
use Rattle.gf_nfg.proofs.reader.Reader.counts_or_lists.Goals as goal

pub returns-in_err-list-clause-machine : goal.returns-in_err-list-clause-machine
returns-in_err-list-clause-machine c = grind (arith, goes_back, carried, first_opens)
