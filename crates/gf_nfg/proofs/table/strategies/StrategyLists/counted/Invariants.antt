use Rattle.gf_nfg.proofs.Common.{◌≡◌, map, take, counted_labels}
use Rattle.gf_nfg.proofs.table.strategies.StrategyLists.counted.Given as goal

abbrev pub invariant-loop-count : goal.invariant-loop-count
invariant-loop-count l = l.all ≡ map counted_labels (take l.count-index l.counts)
