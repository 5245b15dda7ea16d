use Rattle.gf_nfg.proofs.Common.{◌+◌, arith, rules}
use Rattle.gf_nfg.proofs.lemmas.runs.ReaderSteps.{ends_back, outcome_opened}
use Rattle.gf_nfg.proofs.reader.body.outcomes.Goals as goal

pub loop-tokens-preserved : goal.loop-tokens-preserved
loop-tokens-preserved g c = λ b size from.
    let h = c.loop-tokens.invariant b size from in
    let opened = outcome_opened h.2 c.in-Some.ensures.next c.in-Some.ensures.input in (
      h.0 + 1,
      omega (arith, h.1, c.saturating_add-outcomes.ensures),
      c.in_ok-outcome.ensures.told b h.0 size opened,
    )

pub returns-in_err-outcome : goal.returns-in_err-outcome
returns-in_err-outcome g c = λ b profiles size count from.
    let h = c.loop-tokens.invariant b size from in
    let opened = outcome_opened h.2 c.in-Some.ensures.next c.in-Some.ensures.input in
    ends_back {r = c.from_residual.result} _ (search rules)
    (c.in_err-outcome.ensures.told b h.0 size opened)
