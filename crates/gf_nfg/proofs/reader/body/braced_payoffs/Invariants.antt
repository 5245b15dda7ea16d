use Rattle.gf_nfg.proofs.Common.{◌≤◌, ℕ, length, false, BracedPayoff, StandsAt, Telling}
use Rattle.gf_nfg.proofs.reader.body.braced_payoffs.Given as goal

abbrev pub invariant-loop-due : goal.invariant-loop-due
invariant-loop-due g l = record {
  goes : (b : Telling g.row.R.Denot) (outcomes : ℕ)
      → StandsAt g.R.Receive.holds b (BracedPayoff false outcomes l.fn.due) l.fn.tokens l.fn.to
      → StandsAt g.R.Receive.holds b (BracedPayoff false outcomes l.due) l.tokens l.to;
  shorter : length l.tokens.ahead ≤ length l.fn.tokens.ahead;
}

abbrev pub decreases-loop-due : goal.decreases-loop-due
decreases-loop-due g l = l.due
