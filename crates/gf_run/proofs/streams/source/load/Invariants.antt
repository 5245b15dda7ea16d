use Rattle.std.proofs.Common.{◌≤◌, ◌-◌, vec_len}
use Rattle.gf_run.specs.Streams.{IsRead, limit}
use Rattle.gf_run.proofs.streams.source.load.Given as goal

-- the bytes so far are those that came
abbrev pub invariant-loop-bytes : goal.invariant-loop-bytes
invariant-loop-bytes g l = record {
  within : vec_len l.bytes ≤ limit;
  read : IsRead g.R.Source.reader l.fn.input l.input l.bytes.items;
}

abbrev pub decreases-loop-bytes : goal.decreases-loop-bytes
decreases-loop-bytes g l = limit - vec_len l.bytes
