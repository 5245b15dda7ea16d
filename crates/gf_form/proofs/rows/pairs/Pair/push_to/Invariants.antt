use Rattle.gf_form.proofs.Common.{HasPairRow}
use Rattle.gf_form.proofs.rows.pairs.Pair.push_to.Given as goal

abbrev pub invariant-loop-place : goal.invariant-loop-place
invariant-loop-place l = HasPairRow l.self l.place l.fn.rows.items l.rows.items
