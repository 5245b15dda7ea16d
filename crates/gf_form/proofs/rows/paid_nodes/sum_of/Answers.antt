use Rattle.gf_form.proofs.Common.{arith}
use Rattle.gf_form.proofs.rows.paid_nodes.sum_of.Goals as goal

pub returns-clause-sum : goal.returns-clause-sum
returns-clause-sum c =
    let scale = rw (c.head_of.ensures, c.head_of-2.ensures) at c.in_ok-scale.ensures in
    grind (arith, scale, c.in_ok-own.ensures, c.in_ok-other.ensures, c.in_ok-checked_add.ensures)
