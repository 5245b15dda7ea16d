use Rattle.std.proofs.Common.{length}
use Rattle.gf_run.specs.Streams.{HasLength}
use Rattle.gf_run.proofs.Asked.{IsAskedAgain}
use Rattle.gf_run.proofs.streams.source.pull_again.Given as goal

-- each pull so far was interrupted
abbrev pub invariant-loop-turn : goal.invariant-loop-turn
invariant-loop-turn g l =
    IsAskedAgain g.R.Source.reader (HasLength (length l.fn.to)) l._turn l.fn.input l.input
