use Rattle.gf_form.proofs.Common.{common_steps, on_ok_weaker, actions_at, all_terms, arith, ◌∙◌}
use Rattle.gf_form.proofs.Common.{◌∷◌, ◌≡◌}
use Rattle.gf_form.proofs.lemmas.rows.ChoiceSums.{added_through, first_summing, none_demanded}
use Rattle.gf_form.proofs.lemmas.rows.ChoiceSums.{last_summing, more_summing, summed_sums, last_met}
use Rattle.gf_form.proofs.lemmas.rows.ChoiceSums.{alone_met}
use Rattle.gf_form.proofs.lemmas.rows.FlatRows.{none_ordered}
use Rattle.gf_form.proofs.lemmas.rows.PairRows.{faster_within, first_step}
use Rattle.gf_form.proofs.rows.terms.Terms.+sums.Goals as goal

pub summed-push_sums-requires : goal.summed-push_sums-requires
summed-push_sums-requires t c =
    grind (
      arith,
      none_ordered,
      first_step,
      faster_within,
      c.in_ok-push_part.ensures,
      c.clear-2.ensures.none,
      c.clear-2.ensures.players,
      c.reused-list.ensures,
      c.clear.ensures.players,
      c.reused-first.ensures,
    )

pub summed-push_part-requires-clause-may : goal.summed-push_part-requires-clause-may
summed-push_part-requires-clause-may t c =
    grind (arith, none_ordered, c.deref.ensures.value, c.count_near-free.ensures, c.clear.ensures.none)

pub summed-push_part-requires-2-clause-may : goal.summed-push_part-requires-2-clause-may
summed-push_part-requires-2-clause-may t c =
    grind (
      arith,
      first_step,
      c.deref.ensures.value,
      c.count_near-free.ensures,
      c.requires.steps,
      c.in_ok-push_sums.ensures.added.ends,
      c.len.ensures,
    )

pub summed-returns-clause-sums : goal.summed-returns-clause-sums
summed-returns-clause-sums t c =
    summed_sums c.args.self.now c.args.slowest.actions c.args.slowest.step
    (actions_at c.args.faster.now) c.count_near-free.result c.len.result
    (all_terms c.clear.new.self) (all_terms c.push_part.new.self) (all_terms c.clear-2.new.self)
    (all_terms c.push_sums.new.self) (all_terms c.push_part-2.new.self)
    (first_step c.args.slowest c.args.faster.now c.requires.steps).0
    (rw c.deref.ensures.value at c.count_near-free.ensures)
    (omega (arith, c.len.ensures, c.args.self.now.demands.ok.0)) c.clear.ensures.none
    c.in_ok-push_part.ensures.pushed c.clear-2.ensures.none c.in_ok-push_sums.ensures.added.sums
    c.in_ok-push_part-2.ensures.pushed

pub push_sums-returns-in_default-clause-added : goal.push_sums-returns-in_default-clause-added
push_sums-returns-in_default-clause-added t c =
    none_demanded c.push_all.result c.args.digits.now c.args.raised c.args.from.now
    c.args.self.now c.push_all.new.self
    (last_met c.args.digits.now (all_terms c.args.from.now) c.in_default.ensures.cases)
    c.push_all.ensures.pushed c.push_all.ensures.order c.push_all.ensures.ends

pub push_sums-returns-then-demand_nothing-clause-added
    : goal.push_sums-returns-then-demand_nothing-clause-added
push_sums-returns-then-demand_nothing-clause-added t c =
    let alone = c.demand_nothing.ensures c.if-demand_nothing.true in
    let pushed = c.push_all-then-demand_nothing.ensures in
    none_demanded c.push_all-then-demand_nothing.result c.args.digits.now c.args.raised
    c.args.from.now c.args.self.now c.push_all-then-demand_nothing.new.self
    (alone_met (actions_at c.args.digits.now) c.args.from.now alone.0 alone.1)
    pushed.pushed pushed.order pushed.ends

pub push_sums-returns-then-have_many_free-clause-added
    : goal.push_sums-returns-then-have_many_free-clause-added
push_sums-returns-then-have_many_free-clause-added t c =
    rw c.in-Some.ensures.cases.0 (on_ok_weaker c.push_each.result
    (added_through (c.in-Some.slowest.now ∷ c.in-Some.faster.now) c.args.raised c.args.from.now
    c.in_ok-list.list c.args.self.now c.push_each.new.self c.in_ok-list.ensures.sums)
    c.push_each.ensures.added)

pub push_each-loop-before-init : goal.push_each-loop-before-init
push_each-loop-before-init t c = grind (arith, first_summing)

pub push_each-loop-before-preserved : goal.push_each-loop-before-preserved
push_each-loop-before-preserved t c =
    let inv = c.loop-before.invariant in
    let step = (first_step c.args.slowest c.args.faster.now c.requires.may.steps).0 in
    let more = c.in_ok-push_sums.ensures in
    let added = rw c.from-action.ensures at more.added in
    record {
      summing = more_summing (actions_at c.args.faster.now) (all_terms c.args.from.now)
          c.args.raised c.loop-before.before (all_terms c.args.self.now)
          (all_terms c.loop-before.self) (all_terms c.push_sums.new.self) inv.summing
          (all_terms c.merge.new.self)
          (rw (c.from-action.ensures, step) at c.in_ok-merge.ensures.merged)
          (rw step at added.sums);
      alike = (more.alike.0 ∙ inv.alike.0, more.alike.1 ∙ inv.alike.1);
      order = added.order;
      ends = λ d some. omega (arith, added.ends d some, step);
      level = c.in_ok-merge.ensures.players ∙ inv.level;
      within = rw c.deref.ensures.value at c.next-chosen.ensures.within;
    }

pub push_each-returns-clause-added : goal.push_each-returns-clause-added
push_each-returns-clause-added t c =
    let inv = c.loop-before.invariant in
    let step = (first_step c.args.slowest c.args.faster.now c.requires.may.steps).0 in
    let done : c.loop-before.before ≡ c.args.slowest.actions =
    omega (arith, c.loop-before-test.false, c.loop-before.auto.before-end) in record {
      sums = last_summing c.args.slowest.actions (actions_at c.args.faster.now)
          (all_terms c.args.from.now) c.args.raised (all_terms c.args.self.now)
          (all_terms c.loop-before.self) (rw done at inv.summing);
      order = inv.order;
      ends = rw (done, step) at inv.ends;
    }

pub push_each-next-chosen-requires-clause-fits : goal.push_each-next-chosen-requires-clause-fits
push_each-next-chosen-requires-clause-fits t c = grind (arith, common_steps)

pub push_each-merge-requires-clause-within : goal.push_each-merge-requires-clause-within
push_each-merge-requires-clause-within t c = grind (arith, common_steps)

pub push_each-overflow_mul-first : goal.push_each-overflow_mul-first
push_each-overflow_mul-first t c = grind (arith, common_steps)

pub push_each-push_sums-requires : goal.push_each-push_sums-requires
push_each-push_sums-requires t c = grind (arith, common_steps)

pub summed-push_part-requires-clause-order : goal.summed-push_part-requires-clause-order
summed-push_part-requires-clause-order t c = grind (arith, none_ordered)
