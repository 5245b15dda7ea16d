use Rattle.std.proofs.Common.{◌++◌, arith, length-append, length-take, rules, take}
use Rattle.std.proofs.KnownBytes.{Consumes-nil}
use Rattle.gf_run.proofs.Errors.{only_error}
use Rattle.gf_run.specs.Streams.{none}
use Rattle.gf_run.proofs.streams.source.load.Goals as goal

pub loop-bytes-init : goal.loop-bytes-init
loop-bytes-init g c = record {
  within = search rules;
  read = rw c.new-bytes.ensures.items
      (record { consumed = Consumes-nil _; turns = none _; grown = omega arith });
}

pub returns-in_err-count-clause-part : goal.returns-in_err-count-clause-part
returns-in_err-count-clause-part g c = only_error _ _ _ _ c.from_residual.ensures.1
    (c.in_err-count.ensures.next _ (rw c.as_slice.ensures.value c.loop-bytes.invariant.read))

pub returns-then-count-eq0-clause-whole : goal.returns-then-count-eq0-clause-whole
returns-then-count-eq0-clause-whole g c =
    let next = rw c.as_slice.ensures.value at c.in_ok-count.ensures.next in
    (next _ c.loop-bytes.invariant.read).0 c.if-count-eq0.true

pub loop-bytes-preserved : goal.loop-bytes-preserved
loop-bytes-preserved g c =
    let own = c.loop-bytes.bytes.ok.0 in
    let size = length-take c.in_ok-count.count c.pull_next.new.buffer in
    let next = rw c.as_slice.ensures.value at c.in_ok-count.ensures.next in
    record {
      within = omega (
        arith,
        size,
        c.in_ok-extend_from_slice.ensures.len,
        c.in_ok-count.ensures.within,
        c.as_slice.ensures.len,
      );
      read = rw c.in_ok-extend_from_slice.ensures.items
          ((next _ c.loop-bytes.invariant.read).1 (omega arith));
    }

pub returns-in_err-extend_from_slice-clause-part : goal.returns-in_err-extend_from_slice-clause-part
returns-in_err-extend_from_slice-clause-part g c =
    let own = c.loop-bytes.bytes.ok.0 in
    let came = take c.in_ok-count.count c.pull_next.new.buffer in
    let all = length-append c.loop-bytes.bytes.items came in
    let size = length-take c.in_ok-count.count c.pull_next.new.buffer in
    let next = rw c.as_slice.ensures.value at c.in_ok-count.ensures.next in
    only_error _ _ _ _ c.from_residual-in_err-extend_from_slice.ensures.1 (
      c.loop-bytes.bytes.items ++ came,
      omega (arith, all, size, c.in_ok-count.ensures.within, c.as_slice.ensures.len),
      (next _ c.loop-bytes.invariant.read).1 (omega arith),
    )
