use Rattle.gf_token.specs.Label.{label_of}
use Rattle.gf_nfg.proofs.lemmas.tables.Strategies.{AreMade}
use Rattle.gf_nfg.proofs.table.strategies.StrategyLists.grouped.Given as goal

abbrev pub invariant-loop-count : goal.invariant-loop-count
invariant-loop-count l = AreMade label_of l.all l.counts l.labels l.count-index l.start
