use Rattle.gf_form.proofs.Common.{arith}
use Rattle.gf_form.proofs.lemmas.rows.PairRows.{come_to_pair}
use Rattle.gf_form.proofs.rows.terms.Terms.pair.Goals as goal

pub returns : goal.returns
returns c = λ less.
    come_to_pair _ _ c.in_ok-first.first c.in_ok-second.second c.in_ok-scale.scale
    c.in_ok-first.ensures c.in_ok-second.ensures c.in_ok-scale.ensures
    (omega (arith, c.if-scale-eq0.false)) (omega (arith, c.if-scale-gt-LARGEST.false))
    (omega (arith, c.if-scale-gt-LARGEST-2.false)) less
