use Rattle.gf_form.proofs.Common.{map}
use Rattle.gf_form.proofs.lemmas.values.Walks.{ArePaidTo}
use Rattle.gf_form.proofs.values.payoffs.Payoffs.new.Given as goal

abbrev pub invariant-loop-before : goal.invariant-loop-before
invariant-loop-before l = ArePaidTo l.game (map (λ row. row.now) l.rows.items) l.before
