use Rattle.gf_nfg.proofs.lemmas.tables.Strategies.{own_is}
use Rattle.gf_nfg.proofs.table.strategies.StrategyLists.count.Goals as goal

pub overflow_sub-result : goal.overflow_sub-result
overflow_sub-result c =
    (own_is _ _ _ _ _ _ _ c.self.invariant c.self.view_is c.deref.ensures.value c.requires
    c.piece_at-own.ensures.start c.piece_at-own.ensures.end).ordered
