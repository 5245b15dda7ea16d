use Rattle.gf_form.proofs.Common.{AreWritten}
use Rattle.gf_form.proofs.rows.written.Written.push_alike.Given as goal

abbrev pub invariant-loop-before : goal.invariant-loop-before
invariant-loop-before l = AreWritten l.asked l.before l.self
