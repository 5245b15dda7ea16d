use Rattle.gf_form.proofs.lemmas.strategies.StrategiesByNumber.{AreJoined}
use Rattle.gf_form.proofs.strategies.numbered.joined_labels.Given as goal

abbrev pub invariant-loop-first : goal.invariant-loop-first
invariant-loop-first l = AreJoined l.firsts l.others l.labels l.first 0

abbrev pub invariant-loop-other : goal.invariant-loop-other
invariant-loop-other l = AreJoined l.firsts l.others l.labels l.first l.other
