use Rattle.std.proofs.Common.{length}
use Rattle.gf_run.proofs.Asked.{Goes}
use Rattle.gf_run.proofs.streams.sink.push_all.Given as goal

-- all before the rest was taken
abbrev pub invariant-loop-rest : goal.invariant-loop-rest
invariant-loop-rest g l = Goes g.W.Sink.writer l.fn.output l.fn.text l.output l.rest

abbrev pub decreases-loop-rest : goal.decreases-loop-rest
decreases-loop-rest g l = length l.rest
