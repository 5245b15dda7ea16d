use Rattle.std.proofs.Common.{[], List}
use Rattle.gf_jobs.specs.Performs.{Closes, DoesNext, IsSame, with_hashed, world_of}
use Rattle.gf_jobs.specs.Duplicates.{HashedFile}
use Rattle.gf_jobs.specs.inner.KeptNames.{IsKeptOf}
use Rattle.gf_jobs.proofs.Going.{IsOn}
use Rattle.gf_jobs.proofs.jobs.session.Session.run_task.Given as goal

-- the files that have a hash are kept
abbrev pub invariant-loop-file : goal.invariant-loop-file
invariant-loop-file g l = record {
  same : IsSame l.fn.self l.self;
  so_far : (hashed : List HashedFile) × IsKeptOf hashed l.groups × IsOn
      (DoesNext g.I.Inputs.opener g.I.Opened.Source.reader g.W.Sink.writer g.E.Sink.writer
      l.fn.self.explain l.task) (Closes g.I.Inputs.opener g.I.Opened.Source.reader g.W.Sink.writer
      g.E.Sink.writer l.fn.self.explain l.task)
      l.files l.file-index (with_hashed [] (world_of l.fn.self)) l.worst
      (with_hashed hashed (world_of l.self));
}
