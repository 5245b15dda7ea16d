use Rattle.gf_form.proofs.Common.{IsLevel, append_assoc, ap, arith, length, nil_from_length, on_ok_weaker, subst, sym}
use Rattle.gf_form.proofs.Common.{take-append-drop, ◌∙◌, ◌++◌, ◌∷◌, ◌+◌, ℕ}
use Rattle.gf_form.proofs.lemmas.reduced.MarkedSets.{apart_marked, both_marked, chosen_marked}
use Rattle.gf_form.proofs.lemmas.reduced.MarkedSets.{found_permuted, free_marked, marked_permuted}
use Rattle.gf_form.proofs.lemmas.reduced.MarkedSets.{part_found, last_marked, still_found}
use Rattle.gf_form.proofs.lemmas.reduced.Searches.{action_fits, count_some, each_some, turn_next}
use Rattle.gf_form.proofs.reduced.labels.Relevance.+below.Goals as goal

pub mark_below-returns-in_default : goal.mark_below-returns-in_default
mark_below-returns-in_default t c =
    rw (nil_from_length _ c.in_default.ensures.cases) (record {
      marked = on_ok_weaker _ (last_marked c.requires.found c.args.level.now) c.mark_all.ensures;
    })

pub mark_below-mark_at-requires-2 : goal.mark_below-mark_at-requires-2
mark_below-mark_at-requires-2 t c = (
  omega (arith, c.decreases, ap length c.in-Some.ensures.cases.0),
  (
    rw c.in-Some.ensures.cases.0 at c.requires.turn,
    (c.in_ok-free.ensures.level, still_found c.mark_each.ensures _ c.requires.found),
  ),
)

pub mark_below-mark_at-requires-3 : goal.mark_below-mark_at-requires-3
mark_below-mark_at-requires-3 t c = (
  omega (arith, c.decreases, ap length c.in-Some.ensures.cases.0),
  (
    rw c.in-Some.ensures.cases.0 at c.requires.turn,
    (
      c.in_ok-own.ensures.level,
      still_found c.in_ok-mark_at.ensures.marked _
          (still_found c.mark_each.ensures _ c.requires.found),
    ),
  ),
)

pub mark_below-returns : goal.mark_below-returns
mark_below-returns t c =
    let visits = c.deref-2.ensures.value in
    rw c.in-Some.ensures.cases.0 (record {
      marked = on_ok_weaker _ (apart_marked c.requires.found
          (c.in-Some.digit.now ∷ c.in-Some.faster.now) _ c.args.level.now
          c.in_ok-free.free c.in_ok-own.own
          (rw (c.split_at.ensures.front, visits) at c.in_ok-free.ensures.visits)
          (rw (c.split_at.ensures.back, visits) at c.in_ok-own.ensures.visits)
          c.in_ok-free.ensures.unknown c.in_ok-own.ensures.unknown
          (rw c.deref.ensures.value at c.mark_each.ensures) c.in_ok-mark_at.ensures.marked)
          c.mark_at-3.ensures.marked;
    })

pub mark_at-mark_below-requires : goal.mark_at-mark_below-requires
mark_at-mark_below-requires t c =
    (omega (arith, c.decreases), (turn_next c.requires.turn, (c.requires.level, c.requires.found)))

pub mark_at-returns-then-not-is_next : goal.mark_at-returns-then-not-is_next
mark_at-returns-then-not-is_next t c = record {
  marked = on_ok_weaker _ (free_marked c.requires.found c.args.level.now c.requires.turn c.in-Some.last.now
      c.requires.level.ordered (grind (arith, c.in-Some.ensures.value, c.deref.ensures.value))
      c.if-last-digit.true) c.mark_below.ensures.marked;
}

pub mark_at-mark_below-requires-then-last-digit : goal.mark_at-mark_below-requires-then-last-digit
mark_at-mark_below-requires-then-last-digit t c = (
  omega (arith, c.decreases),
  (
    turn_next c.requires.turn,
    (
      c.requires.level,
      rw c.deref-then-last-digit.ensures.value
          (found_permuted _ _ c.in_ok-ordered.ensures c.requires.found),
    ),
  ),
)

pub mark_at-returns-then-last-digit : goal.mark_at-returns-then-last-digit
mark_at-returns-then-last-digit t c = record {
  marked = on_ok_weaker _ (λ marked. free_marked c.requires.found c.args.level.now c.requires.turn
      c.in-Some.last.now c.requires.level.ordered
      (grind (arith, c.in-Some.ensures.value, c.deref.ensures.value)) c.if-last-digit.true
      (marked_permuted _ _ _ _ c.in_ok-ordered.ensures marked))
      (rw c.deref-then-last-digit.ensures.value at c.mark_below-then-last-digit.ensures.marked);
}

pub mark_at-choice-before-requires-clause-count : goal.mark_at-choice-before-requires-clause-count
mark_at-choice-before-requires-clause-count t c = count_some c.requires.turn

pub mark_at-choice-before-requires-clause-each : goal.mark_at-choice-before-requires-clause-each
mark_at-choice-before-requires-clause-each t c = each_some c.requires.turn

pub mark_at-alike-requires-clause-count : goal.mark_at-alike-requires-clause-count
mark_at-alike-requires-clause-count t c = count_some c.requires.turn

pub mark_at-alike-requires-clause-each : goal.mark_at-alike-requires-clause-each
mark_at-alike-requires-clause-each t c = each_some c.requires.turn

pub mark_at-choose-requires-clause-fits : goal.mark_at-choose-requires-clause-fits
mark_at-choose-requires-clause-fits t c =
    action_fits c.requires.turn _ _ (c.from.ensures ∙ c.choice-before.ensures)

pub mark_at-mark_below-requires-in-loop-rest : goal.mark_at-mark_below-requires-in-loop-rest
mark_at-mark_below-requires-in-loop-rest t c =
    let so_far = c.loop-rest.invariant in (
      omega (arith, c.decreases),
      (
        turn_next c.requires.turn,
        (
          subst (λ (sets : ℕ). IsLevel sets c.choose.new.self)
              (c.requires.level.counted ∙ sym so_far.2.sets) c.in_ok-choose.ensures.level,
          still_found so_far.2 _ (part_found _ so_far.0 _ _ _ so_far.1 c.split_at.ensures.front
              c.requires.found),
        ),
      ),
    )

pub mark_at-loop-rest-preserved : goal.mark_at-loop-rest-preserved
mark_at-loop-rest-preserved t c =
    let so_far = c.loop-rest.invariant in
    let found = still_found so_far.2 _ (part_found _ so_far.0 _ _ _ so_far.1 c.split_at.ensures.front
    c.requires.found) in (
      so_far.0 ++ c.split_at.result.0.now,
      grind (arith, so_far.1, append_assoc, take-append-drop),
      both_marked _ _ _ _ _ so_far.2 (chosen_marked found c.args.level.now c.requires.turn _ c.choose.new.self
          (ap (λ b. b + 1) c.from.ensures) c.in_ok-choose.ensures.chosen
          (so_far.2.sets ∙ sym c.requires.level.counted)
          (rw c.split_at.ensures.front c.alike.ensures.same) c.in_ok-mark_below.ensures.marked),
    )
