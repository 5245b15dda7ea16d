use Rattle.gf_form.proofs.Common.{stops_left, turns_left, ◌≡◌}
use Rattle.gf_form.proofs.rows.descent.Descent.next.Given as goal

abbrev pub invariant-loop-branch : goal.invariant-loop-branch
invariant-loop-branch g l =
    stops_left g.S.Handed.handing l.self ≡ stops_left g.S.Handed.handing l.fn.self

abbrev pub decreases-loop-branch : goal.decreases-loop-branch
decreases-loop-branch g l = turns_left l.self
