use Rattle.gf_nfg.proofs.Common.{◌≡◌, ℕ, IsCounted, OutcomeNumbers, Outcomes, StandsAt, Telling}
use Rattle.gf_nfg.proofs.reader.body.numbers.Given as goal

abbrev pub invariant-loop-due : goal.invariant-loop-due
invariant-loop-due g l = (b : Telling g.row.R.Denot) (n : ℕ) → IsCounted n l.outcomes
    → b.version ≡ Outcomes
    → StandsAt g.R.Receive.holds b (OutcomeNumbers n l.fn.due) l.fn.tokens l.fn.to
    → StandsAt g.R.Receive.holds b (OutcomeNumbers n l.due) l.tokens l.to

abbrev pub decreases-loop-due : goal.decreases-loop-due
decreases-loop-due g l = l.due
