use Rattle.gf_nfg.proofs.Common.{arith, rules}
use Rattle.gf_nfg.proofs.lemmas.runs.ReaderSteps.{ends_back, outcome_named}
use Rattle.gf_nfg.proofs.reader.body.outcome.Goals as goal

pub returns-in_err-braced_payoffs-clause-told : goal.returns-in_err-braced_payoffs-clause-told
returns-in_err-braced_payoffs-clause-told g c = λ b outcomes size h.
    ends_back {r = c.from_residual.result} _ (search rules)
    (c.in_err-braced_payoffs.ensures.told b outcomes
    (outcome_named h size c.in-Some.ensures.next c.in-Some.ensures.input))

pub returns-in_default-closing-clause-told : goal.returns-in_default-closing-clause-told
returns-in_default-closing-clause-told g c = λ b outcomes size h.
    let n = c.in_ok-braced_payoffs.ensures.told b outcomes
    (outcome_named h size c.in-Some.ensures.next c.in-Some.ensures.input) in
    grind arith

pub returns-clause-told : goal.returns-clause-told
returns-clause-told g c = λ b outcomes size h.
    let n = c.in_ok-braced_payoffs.ensures.told b outcomes
    (outcome_named h size c.in-Some.ensures.next c.in-Some.ensures.input) in
    grind arith
