use Rattle.gf_nfg.proofs.Common.{arith}
use Rattle.gf_fraction.proofs.Offered.{answer_is, number_answers}
use Rattle.gf_nfg.proofs.lemmas.places.Judged.{lacks_memory}
use Rattle.gf_nfg.proofs.reader.body.payoff.Goals as goal

pub returns-in-Err : goal.returns-in-Err
returns-in-Err g c = grind (arith, number_answers)

pub returns-in-Ok-payoff : goal.returns-in-Ok-payoff
returns-in-Ok-payoff g c = grind (arith, number_answers)

pub returns-in_default-payoff : goal.returns-in_default-payoff
returns-in_default-payoff g c = grind (arith, answer_is, lacks_memory)
