use Rattle.gf_form.proofs.Common.{◌≡◌, ◌++◌, length, map, is_paid, paid_reached, rows_of, node_at}
use Rattle.gf_form.proofs.Common.{stops_left, path_handing, choices_by}
use Rattle.std.specs.List.{filter}
use Rattle.gf_form.proofs.rows.paid_nodes.paid_nodes.Given as goal

abbrev pub invariant-loop-walk : goal.invariant-loop-walk
invariant-loop-walk l =
    let rows = rows_of l.payoffs in
    l.nodes.items ++ filter (is_paid rows) (map node_at (stops_left path_handing l.walk))
    ≡ paid_reached rows l.game (choices_by l.game (map (λ own. own.items) l.digits.steps.items))

abbrev pub decreases-loop-walk : goal.decreases-loop-walk
decreases-loop-walk l = length (stops_left path_handing l.walk)
