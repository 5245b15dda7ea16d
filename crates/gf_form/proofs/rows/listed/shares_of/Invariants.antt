use Rattle.gf_form.proofs.Common.{HasShares, IsWithin, ArePaid, rows_of, Game, take}
use Rattle.gf_form.proofs.rows.listed.shares_of.Given as goal

abbrev pub invariant-loop-node : goal.invariant-loop-node
invariant-loop-node l = IsWithin l.sum.amount
    × ((g : Game) → ArePaid g (rows_of l.payoffs)
    → HasShares g (take l.node-index l.nodes) l.place l.den l.sum.bound l.sum.amount)
