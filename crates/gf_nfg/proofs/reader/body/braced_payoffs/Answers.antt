use Rattle.gf_nfg.proofs.Common.{rules}
use Rattle.gf_nfg.proofs.lemmas.runs.ReaderSteps.{ends_back}
use Rattle.gf_nfg.proofs.reader.body.braced_payoffs.Goals as goal

pub returns-in_err-payoff-clause-told : goal.returns-in_err-payoff-clause-told
returns-in_err-payoff-clause-told g c = λ b outcomes h.
    ends_back {r = c.from_residual.result} _ (search rules)
    (c.in_err-payoff.ensures.braced b outcomes c.loop-due.due c.loop-due-test.true
    (c.loop-due.invariant.goes b outcomes h))
