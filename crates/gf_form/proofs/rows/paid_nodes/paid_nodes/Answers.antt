use Rattle.gf_form.proofs.Common.{refl}
use Rattle.gf_form.proofs.rows.paid_nodes.paid_nodes.Goals as goal

pub loop-walk-init : goal.loop-walk-init
loop-walk-init c =
    rw (c.new-nodes.ensures.items, c.new-walk.ensures, c.deref.ensures.value, c.root.ensures) refl
