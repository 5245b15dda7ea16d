use Rattle.gf_form.proofs.Common.{IsShareAt, rows_of}
use Rattle.gf_form.specs.inner.rows.ItemRows.{HasRow}
use Rattle.gf_form.proofs.rows.listed.push_shares.Given as goal

abbrev pub invariant-loop-place : goal.invariant-loop-place
invariant-loop-place l = HasRow (IsShareAt (rows_of l.payoffs) l.nodes l.over) l.place
    l.fn.numbers.items l.numbers.items
