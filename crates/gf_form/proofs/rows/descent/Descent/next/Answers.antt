use Rattle.gf_form.proofs.Common.{stops_after, next_stops, arith, ◌++◌, sym, ◌∙◌, ap}
use Rattle.gf_form.proofs.rows.descent.Descent.next.Goals as goal

pub returns-in-Some : goal.returns-in-Some
returns-in-Some g c =
    let h = g.S.Handed.handing in
    let d = c.loop-branch.self in
    sym c.loop-branch.invariant
    ∙ ap (λ next. next_stops h d.steps next ++ stops_after h d) (sym c.in-Some.ensures.value)
    ∙ grind (arith, c.in_ok-enter.ensures.left)
