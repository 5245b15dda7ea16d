use Rattle.gf_nfg.proofs.Common.{FlatPayoffs, StandsAt, Telling}
use Rattle.gf_nfg.proofs.reader.body.payoffs.Given as goal

abbrev pub invariant-loop-due : goal.invariant-loop-due
invariant-loop-due g l = (b : Telling g.row.R.Denot)
    → StandsAt g.R.Receive.holds b (FlatPayoffs l.fn.due) l.fn.tokens l.fn.to
    → StandsAt g.R.Receive.holds b (FlatPayoffs l.due) l.tokens l.to

abbrev pub decreases-loop-due : goal.decreases-loop-due
decreases-loop-due g l = l.due
