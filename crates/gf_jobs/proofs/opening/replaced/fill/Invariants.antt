use Rattle.std.proofs.Common.{length}
use Rattle.gf_jobs.proofs.opening.replaced.fill.Given as goal

abbrev pub decreases-loop-output : goal.decreases-loop-output
decreases-loop-output l = length l.text.rest
