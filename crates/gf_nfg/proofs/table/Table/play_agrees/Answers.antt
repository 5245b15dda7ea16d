use Rattle.gf_nfg.proofs.lemmas.tables.Same.{same_play_as_kept}
use Rattle.gf_nfg.proofs.table.Table.play_agrees.Goals as goal

pub returns-then-plays_as : goal.returns-then-plays_as
returns-then-plays_as c = same_play_as_kept c.args.self.now c.args.o.now _ _ _ _ _
    c.frame.ensures.is_table c.frame-2.ensures.is_table c.frame.ensures.frame
    c.frame-2.ensures.frame (c.plays_as.ensures.0 c.if-plays_as.true) c.rows.ensures
    c.rows-then-plays_as.ensures c.same_rows.ensures
