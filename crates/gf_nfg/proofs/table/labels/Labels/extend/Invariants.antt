use Rattle.gf_nfg.proofs.Common.{◌≡◌, ◌++◌, map, take, label_of}
use Rattle.gf_nfg.proofs.table.labels.Labels.extend.Given as goal

abbrev pub invariant-loop-label : goal.invariant-loop-label
invariant-loop-label l = l.self ≡ l.initial.self ++ map label_of (take l.label-index l.labels)
