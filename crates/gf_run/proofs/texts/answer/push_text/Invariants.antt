use Rattle.std.proofs.Common.{length}
use Rattle.gf_run.specs.Streams.{IsBegun}
use Rattle.gf_run.proofs.texts.answer.push_text.Given as goal

-- the text was written up to what is left of it
abbrev pub invariant-loop-output : goal.invariant-loop-output
invariant-loop-output g l = IsBegun g.W.Sink.writer l.fn.output l.output l.fn.text.rest l.text.rest

abbrev pub decreases-loop-output : goal.decreases-loop-output
decreases-loop-output g l = length l.text.rest
