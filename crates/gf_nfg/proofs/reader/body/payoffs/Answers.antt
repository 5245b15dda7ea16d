use Rattle.gf_nfg.proofs.Common.{rules}
use Rattle.gf_nfg.proofs.lemmas.runs.ReaderSteps.{ends_back}
use Rattle.gf_nfg.proofs.reader.body.payoffs.Goals as goal

pub returns-in_err-payoff : goal.returns-in_err-payoff
returns-in_err-payoff g c = λ b h.
    ends_back {r = c.from_residual.result} _ (search rules) (c.in_err-payoff.ensures.flat b
    c.loop-due.due c.loop-due-test.true (c.loop-due.invariant b h))
