use Rattle.gf_form.proofs.Common.{all_terms, MayCome, lowered, part, ◌+◌, ◌-◌, ◌≤◌}
use Rattle.gf_form.proofs.lemmas.rows.FlatRows.{Pushing}
use Rattle.gf_form.proofs.rows.terms.Terms.push_part.Given as goal

abbrev pub invariant-loop-place : goal.invariant-loop-place
invariant-loop-place l = record {
  pushing : Pushing (lowered l.less) (part l.start l.place (all_terms l.from)) l.fn.self l.self;
  near : l.place ≤ l.start + (l.end - l.start);
  may : MayCome l.from l.self l.less l.place l.end;
}
