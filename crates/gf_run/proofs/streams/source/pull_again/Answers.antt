use Rattle.std.proofs.Common.{rules}
use Rattle.gf_run.proofs.Asked.{asked_again, asked_first}
use Rattle.gf_run.proofs.streams.source.pull_again.Goals as goal

pub loop-turn-init : goal.loop-turn-init
loop-turn-init g c = asked_first _ _ _

pub loop-turn-preserved : goal.loop-turn-preserved
loop-turn-preserved g c = asked_again _ _ _ _ _ _ c.loop-turn.invariant c.in-Err.ensures.bytes
    c.in-Err.ensures.counted (search rules)
