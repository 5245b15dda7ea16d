use Rattle.gf_nfg.proofs.Common.{arith, rules, ◌-◌}
use Rattle.gf_nfg.proofs.lemmas.places.Judged.{carried}
use Rattle.gf_nfg.proofs.lemmas.runs.ReaderSteps.{goes_back}
use Rattle.gf_nfg.proofs.reader.Reader.lists.Goals as goal

pub returns-in_err-list-clause-machine : goal.returns-in_err-list-clause-machine
returns-in_err-list-clause-machine c =
    goes_back _ (search rules)
    (carried (c.in_err-list.ensures.machine (c.loop-due.due - 1)) (grind arith))
