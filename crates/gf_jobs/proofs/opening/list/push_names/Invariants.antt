use Rattle.std.proofs.Common.{map}
use Rattle.std.specs.Io.Buffered.{reader_remaining}
use Rattle.std.specs.Io.Iter.{split_byte, split_known_bytes}
use Rattle.gf_jobs.proofs.Listed.{AreSoFar}
use Rattle.gf_jobs.proofs.opening.list.push_names.Given as goal

abbrev pub invariant-loop-line : goal.invariant-loop-line
invariant-loop-line g l = AreSoFar l.fn.end (g.R.Read.remaining l.fn.input)
    (split_known_bytes (reader_remaining g.R.Read.remaining) l.line-iterator)
    (split_byte l.line-iterator)
    (map (λ name. name.items) l.fn.names.items) (map (λ name. name.items) l.names.items)
