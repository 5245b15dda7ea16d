use Rattle.gf_nfg.proofs.Common.{arith, get_or, get_or_from_slice_get, refl}
use Rattle.gf_nfg.proofs.lemmas.tables.Classes.{compared_more, row_at, row_in, rows_in}
use Rattle.gf_nfg.proofs.table.agree.same_kept_rows.Goals as goal

pub loop-place-init : goal.loop-place-init
loop-place-init c = record {
  places =
      omega (arith, c.in_ok-classes.ensures.places, c.len.ensures.len, c.len-2.ensures.len);
  rows = c.in_ok-classes.ensures.rows _;
  same = refl;
}

pub returns-then-not-same_row : goal.returns-then-not-same_row
returns-then-not-same_row c =
    let left = row_at _ _ _ c.loop-place.place c.in-Some-Some.ensures (omega arith) in
    let right = row_at _ _ _ c.loop-place.place c.in-Some-Some.ensures' (omega arith) in
    grind (arith, get_or_from_slice_get)

pub loop-place-preserved : goal.loop-place-preserved
loop-place-preserved c =
    let at = c.loop-place.place in
    let left = row_at _ _ _ at c.in-Some-Some.ensures (omega arith) in
    let right = row_at _ _ _ at c.in-Some-Some.ensures' (omega arith) in
    let a = c.in-Some-Some.left.now in
    let b = c.in-Some-Some.right.now in
    let both = rows_in a b _ (get_or c.in-Some-Some.n.now at 0) left.0 in
    let known = c.unite.ensures.known (row_in a b) in
    compared_more _ _ _ _ _ _ at _ _ c.loop-place.invariant left.0 left.1 right.1
    (grind (arith, get_or_from_slice_get)) c.unite.ensures.places
    (rw c.len-in-loop-place.ensures.len at c.unite.ensures.rows)
