use Rattle.gf_form.proofs.Common.{TellNodes, EndsBelow, get_or, length, rows_of, take, Path, ◌-◌, ◌<◌}
use Rattle.gf_form.proofs.Common.{◌≡◌, ◌≤◌}
use Rattle.gf_form.proofs.rows.listed.listed_apart.Given as goal

abbrev pub invariant-loop-start : goal.invariant-loop-start
invariant-loop-start l = record {
  told : TellNodes (rows_of l.payoffs) (take l.start l.nodes) l.terms;
  next : (d : Path) → l.start < length l.nodes
      → EndsBelow l.terms.demands.items (get_or l.nodes l.start d).demands;
  players : l.terms.players ≡ l.fn.players;
  within : l.start ≤ length l.nodes;
}

abbrev pub decreases-loop-start : goal.decreases-loop-start
decreases-loop-start l = length l.nodes - l.start
