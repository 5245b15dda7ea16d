use Rattle.gf_nfg.proofs.Common.{◌≡◌, map, take, label_of}
use Rattle.gf_nfg.proofs.table.strategies.StrategyLists.of_lists.Given as goal

abbrev pub invariant-loop-own : goal.invariant-loop-own
invariant-loop-own l = l.all ≡ map (λ own. map label_of own.items) (take l.own-index l.lists)
