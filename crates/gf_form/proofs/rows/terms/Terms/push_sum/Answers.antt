use Rattle.gf_form.proofs.Common.{arith}
use Rattle.gf_form.proofs.lemmas.rows.FlatRows.{plain_scale}
use Rattle.gf_form.proofs.rows.terms.Terms.push_sum.Goals as goal

pub push_over-requires-clause-scale : goal.push_over-requires-clause-scale
push_over-requires-clause-scale c =
    plain_scale c.args.from.now c.args.first c.args.second c.requires.first c.requires.second
    (grind arith)
