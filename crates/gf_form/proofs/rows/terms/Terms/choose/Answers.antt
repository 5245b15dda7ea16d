use Rattle.gf_form.proofs.Common.{common_steps, arith, ◌∙◌}
use Rattle.gf_form.proofs.lemmas.rows.PairRows.{settled_next, some_stride, step_within}
use Rattle.gf_form.proofs.rows.terms.Terms.choose.Goals as goal

pub part_of-before-requires : goal.part_of-before-requires
part_of-before-requires c =
    some_stride c.args.asked.now c.args.run c.requires.some c.requires.settled
    c.quotient-count.ensures

pub next-chosen-requires-clause-fits : goal.next-chosen-requires-clause-fits
next-chosen-requires-clause-fits c =
    rw c.from-action.ensures (step_within c.args.asked.now c.args.run c.requires.some
    c.requires.settled c.quotient-count.ensures c.part_of-before.ensures)

pub merge-requires-clause-within : goal.merge-requires-clause-within
merge-requires-clause-within c =
    rw c.from-action.ensures (step_within c.args.asked.now c.args.run c.requires.some
    c.requires.settled c.quotient-count.ensures c.part_of-before.ensures)

pub merge-requires-clause-chosen : goal.merge-requires-clause-chosen
merge-requires-clause-chosen c = rw c.deref.ensures.value at c.next-chosen.ensures.chosen

pub returns-clause-settled : goal.returns-clause-settled
returns-clause-settled c =
    settled_next c.args.asked.now c.args.run c.requires.some c.requires.settled
    c.quotient-count.ensures c.part_of-before.ensures c.run_end-to.result c.merge.new.self
    (rw c.from-action.ensures at c.in_ok-merge.ensures.merged) (
      c.in_ok-merge.ensures.order,
      c.in_ok-merge.ensures.players ∙ c.requires.players ∙ c.requires.settled.are_terms.1,
    )
    c.run_end-to.ensures.within c.run_end-to.ensures.run

pub run_end-to-requires-clause-places : goal.run_end-to-requires-clause-places
run_end-to-requires-clause-places c = c.requires.asked.places

pub quotient-count-requires : goal.quotient-count-requires
quotient-count-requires c = grind (arith, common_steps)

pub overflow_add-first : goal.overflow_add-first
overflow_add-first c = grind arith
