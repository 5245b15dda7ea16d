use Rattle.gf_form.proofs.Common.{with_demands, first_terms, EndsBelow}
use Rattle.gf_form.proofs.lemmas.rows.FlatRows.{Pushing}
use Rattle.gf_form.proofs.rows.terms.Terms.push_all.Given as goal

abbrev pub invariant-loop-place : goal.invariant-loop-place
invariant-loop-place l = record {
  pushing : Pushing (with_demands l.demands) (first_terms l.from l.place) l.fn.self l.self;
  ends : EndsBelow l.self.demands.items l.demands;
}
