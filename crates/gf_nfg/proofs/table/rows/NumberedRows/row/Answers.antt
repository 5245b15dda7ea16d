use Rattle.gf_nfg.proofs.lemmas.tables.Rows.{row_there}
use Rattle.gf_nfg.proofs.table.rows.NumberedRows.row.Goals as goal

pub returns-else-number-eq0 : goal.returns-else-number-eq0
returns-else-number-eq0 c =
    rw c.deref-else-number-eq0.ensures.value (row_there _ _ _ _ _ _ c.self.invariant
    c.self.view_is c.requires c.if-number-eq0.false)
