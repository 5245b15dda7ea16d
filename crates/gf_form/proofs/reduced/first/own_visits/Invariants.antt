use Rattle.gf_form.proofs.Common.{AreOwn, take}
use Rattle.gf_form.proofs.lemmas.reduced.SearchStarts.{AreOwnTo}
use Rattle.gf_form.proofs.reduced.first.own_visits.Given as goal

abbrev pub invariant-loop-visit : goal.invariant-loop-visit
invariant-loop-visit l = AreOwn l.digits (take l.visit-index l.visits) l.own.items

abbrev pub invariant-loop-position : goal.invariant-loop-position
invariant-loop-position l =
    AreOwnTo l.digits l.visits l.visit-index l.position l.own.items
