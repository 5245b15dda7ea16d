use Rattle.gf_form.proofs.lemmas.reduced.LevelsChosen.{MarkedTo}
use Rattle.gf_form.proofs.reduced.level.Level.mark.Given as goal

abbrev pub invariant-loop-visit : goal.invariant-loop-visit
invariant-loop-visit l = MarkedTo l.self l.visit-index l.met.items
