use Rattle.gf_form.proofs.Common.{length, ◌+◌}
use Rattle.gf_form.proofs.lemmas.reduced.LevelsChosen.{IsPartly}
use Rattle.gf_form.proofs.reduced.level.Level.choose.Given as goal

abbrev pub invariant-loop-visit : goal.invariant-loop-visit
invariant-loop-visit l = IsPartly l.step l.action l.from l.parts l.self

abbrev pub decreases-loop-visit : goal.decreases-loop-visit
decreases-loop-visit l = length l.parts.free.now + length l.parts.own.now
