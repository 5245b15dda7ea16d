use Rattle.gf_form.proofs.Common.{◌+◌, ◌-◌}
use Rattle.gf_form.proofs.lemmas.rows.FlatRows.{Merges}
use Rattle.gf_form.proofs.rows.terms.Terms.merge.Given as goal

abbrev pub invariant-loop-free : goal.invariant-loop-free
invariant-loop-free l =
    Merges l.from l.step l.action l.lowest l.chosen.free l.chosen.end l.free l.own l.self

abbrev pub decreases-loop-free : goal.decreases-loop-free
decreases-loop-free l = (l.chosen.free - l.free) + (l.chosen.end - l.own)
