use Rattle.gf_form.proofs.Common.{AreWritten, AreWithin}
use Rattle.gf_form.proofs.rows.written.Written.push_last.Given as goal

abbrev pub invariant-loop-before : goal.invariant-loop-before
invariant-loop-before l = AreWritten l.asked l.before l.self
    × AreWithin l.terms.demands.items l.chosen
