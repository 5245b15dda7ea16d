use Rattle.std.proofs.Common.{◌≡◌, ◌++◌, List, drop, map, reverse}
use Rattle.gf_jobs.specs.LedTo.{AreIn}
use Rattle.gf_jobs.specs.declared.collections.file.CollectionFile.{CollectionFile}
use Rattle.gf_jobs.proofs.collections.folders.push_entries.Given as goal

abbrev pub invariant-loop-place : goal.invariant-loop-place
invariant-loop-place l = (inside : List CollectionFile)
    × AreIn l.folder (map (λ name. name.items) (drop l.place l.names)) inside
    × (reverse l.waiting.items ≡ inside ++ reverse l.fn.waiting.items)
