use Rattle.std.proofs.Common.{arith}
use Rattle.gf_jobs.proofs.Listed.{none_yet, one_more}
use Rattle.gf_jobs.proofs.opening.list.push_names.Goals as goal

pub loop-line-init : goal.loop-line-init
loop-line-init g c =
    let split = c.split-line-items.ensures in
    let iterator = c.into_iter-line-iterator.ensures in
    none_yet _ _ _ _ _ (grind (arith, c.end_byte.ensures, split.byte, iterator))
    (grind (
      arith,
      c.in_ok-new.ensures.inner,
      c.in_ok-new.ensures.empty,
      c.in_ok-new.ensures.capacity,
      split.bytes,
      iterator,
    ))

pub loop-line-preserved : goal.loop-line-preserved
loop-line-preserved g c =
    let (without, same, (first, drops)) = rw c.in_ok-line.was at c.in-Some.ensures.steps in
    one_more _ _ _ _ _ _ _ _ _ c.in_ok-line.field-0.items
    same first drops c.in_ok-push_name.ensures c.loop-line.invariant
