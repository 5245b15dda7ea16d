use Rattle.gf_form.proofs.Common.{with_demands, first_terms, add-one, term_at, arith, ap}
use Rattle.gf_form.proofs.lemmas.rows.FlatRows.{below_more, more_pushing}
use Rattle.gf_form.proofs.rows.terms.Terms.push_all.Goals as goal

pub loop-place-preserved : goal.loop-place-preserved
loop-place-preserved c =
    let from = c.args.from.now in
    let place = c.loop-place.place in
    let before = c.loop-place.invariant in
    let now = c.loop-place.self in
    let after = c.push_as.new.self in
    let demands = c.args.demands in
    let more = c.in_ok-push_as.ensures in
    record {
      pushing = more_pushing (with_demands demands) _ _ (term_at from place) c.args.self.now now
          after (ap (first_terms from) (add-one place)) before.pushing more.pushed more.alike
          more.shaped before.ends;
      ends = below_more now after (with_demands demands (term_at from place)) more.pushed demands
          (omega arith);
    }
