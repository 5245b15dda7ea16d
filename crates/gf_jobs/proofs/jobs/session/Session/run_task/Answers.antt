use Rattle.std.proofs.Common.{[], rules}
use Rattle.gf_jobs.proofs.Going.{closes, goes_on, stops}
use Rattle.gf_jobs.proofs.jobs.session.Session.run_task.Goals as goal

pub loop-file-init : goal.loop-file-init
loop-file-init g c = record {
  same = search rules;
  so_far = ([], c.new-groups.ensures, record { leads = λ status end rest. rest });
}

pub loop-file-preserved : goal.loop-file-preserved
loop-file-preserved g c =
    let now = c.loop-file.invariant in
    let next = c.in-Ok.ensures.next now.so_far.0 now.so_far.1 in record {
      same = search rules;
      so_far = (
        next.0,
        next.1,
        goes_on _ _ _ _ _ _ _ now.so_far.2 _ c.loop-file-test.true c.file-item.is _ _ _
            (rw now.same.4 at next.2) c.max-worst.ensures,
      );
    }

pub returns-in-Err-clause-done : goal.returns-in-Err-clause-done
returns-in-Err-clause-done g c =
    let now = c.loop-file.invariant in
    let next = c.in-Err.ensures.next now.so_far.0 now.so_far.1 in (
      next.0,
      stops _ _ _ _ _ _ _ now.so_far.2 _ c.loop-file-test.true c.file-item.is _ _ _
          (rw now.same.4 at next.1) c.max.ensures,
    )

pub returns-clause-done : goal.returns-clause-done
returns-clause-done g c =
    let now = c.loop-file.invariant in (
      now.so_far.0,
      closes _ _ _ _ _ _ _ now.so_far.2 _ _ _ c.loop-file-test.false
          (rw now.same.4 at c.close.ensures.closed now.so_far.0 now.so_far.1) c.max-2.ensures,
    )
