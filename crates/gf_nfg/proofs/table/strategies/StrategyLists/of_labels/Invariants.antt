use Rattle.gf_nfg.proofs.Common.{◌≡◌, AllByRecursion, AreSpellings}
use Rattle.gf_nfg.proofs.table.strategies.StrategyLists.of_labels.Given as goal

abbrev pub invariant-loop-own : goal.invariant-loop-own
invariant-loop-own l =
    (l.all ≡ l.yielded) × AllByRecursion (λ own. AreSpellings own) l.yielded
