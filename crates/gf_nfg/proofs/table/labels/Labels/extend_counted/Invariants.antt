use Rattle.gf_nfg.proofs.Common.{◌≡◌, ◌++◌, counted_labels}
use Rattle.gf_nfg.proofs.table.labels.Labels.extend_counted.Given as goal

abbrev pub invariant-loop-before : goal.invariant-loop-before
invariant-loop-before l = l.self ≡ l.initial.self ++ counted_labels l.before
