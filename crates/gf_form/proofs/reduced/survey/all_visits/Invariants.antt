use Rattle.gf_form.proofs.Common.{◌≡◌, ◌++◌, length, stops_left, visit_handing, visits_by}
use Rattle.gf_form.proofs.Common.{visits_of}
use Rattle.gf_form.proofs.reduced.survey.all_visits.Given as goal

abbrev pub invariant-loop-walk : goal.invariant-loop-walk
invariant-loop-walk l =
    l.visits.items ++ visits_of l.player (stops_left visit_handing l.walk)
    ≡ visits_by l.game l.player l.steps

abbrev pub decreases-loop-walk : goal.decreases-loop-walk
decreases-loop-walk l = length (stops_left visit_handing l.walk)
