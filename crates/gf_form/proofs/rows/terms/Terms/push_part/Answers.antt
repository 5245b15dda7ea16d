use Rattle.gf_form.proofs.Common.{lowered, term_at, arith}
use Rattle.gf_form.proofs.lemmas.rows.FlatRows.{skips, waits, more_pushing, part_more}
use Rattle.gf_form.proofs.rows.terms.Terms.push_part.Goals as goal

pub loop-place-preserved : goal.loop-place-preserved
loop-place-preserved c =
    let from = c.args.from.now in
    let place = c.loop-place.place in
    let before = c.loop-place.invariant in
    let less = c.loop-place-test.true in
    let more = c.in_ok-push.ensures in
    record {
      pushing = more_pushing (lowered c.args.less) _ _ (term_at from place) c.args.self.now
          c.loop-place.self c.push.new.self (part_more from c.args.start place
          (omega (arith, c.loop-place.auto.place)) (omega (arith, less, before.may.within)))
          before.pushing more.pushed more.alike more.shaped (before.may.rises less);
      near = omega (arith, less, c.loop-place.auto.place);
      may = skips c.requires.order.1.1 (waits c.loop-place.self c.push.new.self
          (lowered c.args.less (term_at from place)) more.pushed before.may (λ _. omega arith))
          less;
    }

pub returns-clause-pushed : goal.returns-clause-pushed
returns-clause-pushed c = grind (arith, c.loop-place.invariant.pushing.is)
