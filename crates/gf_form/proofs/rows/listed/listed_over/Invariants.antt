use Rattle.gf_form.proofs.Common.{EndsBelow, get_or, length, rows_of, take, Path, ◌-◌, ◌<◌, ◌≡◌, ◌≤◌}
use Rattle.gf_form.specs.inner.rows.Paying.{AreFitting}
use Rattle.gf_form.proofs.rows.listed.listed_over.Given as goal

abbrev pub invariant-loop-start : goal.invariant-loop-start
invariant-loop-start l = record {
  fitting : AreFitting (rows_of l.payoffs) (take l.start l.nodes) l.size l.terms;
  next : (d : Path) → l.start < length l.nodes
      → EndsBelow l.terms.demands.items (get_or l.nodes l.start d).demands;
  players : l.terms.players ≡ l.fn.players;
  den : l.terms.den ≡ l.fn.den;
  within : l.start ≤ length l.nodes;
}

abbrev pub decreases-loop-start : goal.decreases-loop-start
decreases-loop-start l = length l.nodes - l.start
