use Rattle.gf_form.proofs.Common.{arith}
use Rattle.gf_form.proofs.lemmas.rows.FlatRows.{same_scale}
use Rattle.gf_form.proofs.rows.sums.scale_of.Goals as goal

pub returns-then-a-gt0 : goal.returns-then-a-gt0
returns-then-a-gt0 c =
    same_scale c.args.a c.args.b c.in_ok-size.size c.if-a-b.true c.if-a-gt0.true
    (omega (arith, c.in_ok-size.ensures))
