use Rattle.gf_run.specs.Streams.{IsOffer}
use Rattle.gf_run.proofs.Asked.{IsAskedAgain}
use Rattle.gf_run.proofs.streams.sink.push_again.Given as goal

-- each push so far was interrupted
abbrev pub invariant-loop-turn : goal.invariant-loop-turn
invariant-loop-turn g l =
    IsAskedAgain g.W.Sink.writer (IsOffer l.from) l._turn l.fn.output l.output
