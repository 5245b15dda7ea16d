use Rattle.std.proofs.Common.{arith, ◌∷◌}
use Rattle.std.proofs.lemmas.List.{reverse-append}
use Rattle.gf_jobs.proofs.Walked.{in_more}
use Rattle.gf_jobs.proofs.collections.folders.push_entries.Goals as goal

pub loop-place-preserved-in_ok-push : goal.loop-place-preserved-in_ok-push
loop-place-preserved-in_ok-push c =
    let (inside, are, is) = c.loop-place.invariant in
    let file = c.in_ok-file_in.field-0 in (
      file ∷ inside,
      in_more (λ name. name.items) c.args.folder.now c.args.names.now c.loop-place.place
          c.index-names-place.result file inside (omega arith) (omega arith) c.index-names-place.is
          (grind (
            arith,
            c.if-not-starts_with.true,
            c.starts_with.ensures.value,
            c.as_slice-name.ensures.value,
          ))
          (rw c.as_slice-name.ensures.value at c.in_ok-file_in.ensures) are,
      grind (arith, reverse-append, c.in_ok-push.ensures.items, is),
    )
