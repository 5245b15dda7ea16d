use Rattle.gf_nfg.proofs.Common.{arith, option_map, rows_in}
use Rattle.gf_nfg.proofs.lemmas.tables.Listed.{next_row}
use Rattle.gf_nfg.proofs.table.payoffs_in_turn.PayoffsInTurn.next.Goals as goal

pub loop-self-preserved : goal.loop-self-preserved
loop-self-preserved c = (
  c.loop-self.invariant.0,
  next_row (rows_in (option_map (λ r. r.now) c.loop-self.self-inside.rows))
      c.loop-self.self-inside.row.now c.row-self-inside.result.now _ c.loop-self.self-inside.place
      (grind arith)
      (rw c.in_ok-rows.was c.row-self-inside.ensures) c.loop-self.invariant.1,
)
