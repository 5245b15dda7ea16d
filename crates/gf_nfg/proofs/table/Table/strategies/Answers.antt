use Rattle.gf_nfg.proofs.Common.{◌-◌, arith, table_with}
use Rattle.gf_nfg.proofs.lemmas.tables.Rows.{own_count_within}
use Rattle.gf_nfg.proofs.table.Table.strategies.Goals as goal

pub overflow_cast-result : goal.overflow_cast-result
overflow_cast-result c =
    let t = c.self.inside in
    let h = c.self.invariant in
    let few = own_count_within (table_with t.frame t.payoffs) (c.args.i - 1) h.is_table
    h.within in
    omega (arith, few, c.strategies.ensures)
