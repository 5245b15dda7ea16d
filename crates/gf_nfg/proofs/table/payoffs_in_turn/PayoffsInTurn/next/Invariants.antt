use Rattle.gf_nfg.proofs.Common.{◌≡◌, ◌++◌, ◌-◌, [], drop, length, option_map, flat_map, rows_in}
use Rattle.gf_nfg.proofs.table.payoffs_in_turn.PayoffsInTurn.next.Given as goal

abbrev pub invariant-loop-self : goal.invariant-loop-self
invariant-loop-self l =
    (l.self-inside.whole.now ≡ [])
    × (l.self-inside.row.now ++ flat_map (λ row. row)
    (drop l.self-inside.place (rows_in (option_map (λ r. r.now) l.self-inside.rows)))
    ≡ l.fn.self)

abbrev pub decreases-loop-self : goal.decreases-loop-self
decreases-loop-self l =
    length (rows_in (option_map (λ r. r.now) l.self-inside.rows)) - l.self-inside.place
