use Rattle.std.proofs.Common.{◌≡◌, ◌++◌, take}
use Rattle.gf_nfg.proofs.table.labels.Labels.extend_by.Given as goal

abbrev pub invariant-loop-at : goal.invariant-loop-at
invariant-loop-at l = l.self ≡ l.initial.self ++ take l.at l.others
