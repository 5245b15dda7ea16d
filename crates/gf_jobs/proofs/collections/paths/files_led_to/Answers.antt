use Rattle.std.proofs.Common.{append-nil}
use Rattle.std.proofs.lemmas.List.{take_all}
use Rattle.gf_jobs.specs.LedTo.AreLedTo.{none}
use Rattle.gf_jobs.proofs.Walked.{led_on}
use Rattle.gf_jobs.proofs.collections.paths.files_led_to.Goals as goal

pub loop-path-init : goal.loop-path-init
loop-path-init g c = rw (c.new-files.ensures.items, c.new-without_games.ensures.items)
    (none _ c.new-2.ensures.empty)

pub loop-path-preserved : goal.loop-path-preserved
loop-path-preserved g c =
    let (own, is, leads) = c.in_ok-push_files.ensures in
    rw (
      c.in_ok-extend_from_slice.ensures.items,
      c.as_slice.ensures.value,
      c.in_ok-line.ensures,
      c.as_str.ensures.value,
      c.in_ok-name.ensures.lossy,
      c.as_slice-path.ensures,
    )
    (led_on g.I.Inputs.opener c.args.inputs.now c.args.repeats g.P.AsSlice.items c.args.paths.now
    _ _ _ _ _ _ _ _ _ c.loop-path-test.true c.path-item.is is c.loop-path.invariant
    (rw (c.if-branch.false, c.as_slice-path.ensures) at leads))

pub loop-path-preserved-then-branch : goal.loop-path-preserved-then-branch
loop-path-preserved-then-branch g c =
    let (own, is, leads) = c.in_ok-push_files.ensures in
    rw append-nil at
    (led_on g.I.Inputs.opener c.args.inputs.now c.args.repeats g.P.AsSlice.items c.args.paths.now
    _ _ _ _ _ _ _ _ _ c.loop-path-test.true c.path-item.is is c.loop-path.invariant
    (rw (c.if-branch.true, c.as_slice-path.ensures) at leads))

pub returns : goal.returns
returns g c = (_, rw (take_all _ c.args.paths.now c.loop-path-test.false) at c.loop-path.invariant)
