use Rattle.gf_nfg.proofs.Common.{◌≡◌, ℕ, length, InOutcomes, IsCounted, StandsAt, Telling}
use Rattle.gf_nfg.proofs.reader.body.outcomes.Given as goal

abbrev pub invariant-loop-tokens : goal.invariant-loop-tokens
invariant-loop-tokens g l = (b : Telling g.row.R.Denot) → length b.heading.players.items ≡ l.players
    → StandsAt g.R.Receive.holds b (InOutcomes 0) l.fn.tokens l.fn.to
    → (n : ℕ) × IsCounted n l.outcomes × StandsAt g.R.Receive.holds b (InOutcomes n) l.tokens l.to

abbrev pub decreases-loop-tokens : goal.decreases-loop-tokens
decreases-loop-tokens g l = length l.tokens.ahead
