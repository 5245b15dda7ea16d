use Rattle.gf_form.proofs.Common.{nil_from_length, common_steps, AreFoundTo, length, arith, subst}
use Rattle.gf_form.proofs.Common.{◌*◌, ◌+◌, ◌/◌, ◌∙◌, ◌≡◌, ap}
use Rattle.gf_form.proofs.lemmas.reduced.Searches.{next_searched, known_firsts, last_firsts}
use Rattle.gf_form.proofs.lemmas.reduced.Searches.{none_found, all_found}
use Rattle.gf_form.proofs.reduced.first.Search.+push_below.Goals as goal

pub push_all-requires-clause-firsts : goal.push_all-requires-clause-firsts
push_all-requires-clause-firsts t c =
    known_firsts c.requires.player c.requires.below
    ((rw c.deref.ensures.value at c.are_set.ensures.set) c.if-are_set.true)

pub push_all-requires-in_default-clause-firsts
    : goal.push_all-requires-in_default-clause-firsts
push_all-requires-in_default-clause-firsts t c =
    last_firsts c.requires.player c.requires.below c.in_ok-mark.ensures
    (nil_from_length _ c.in_default.ensures.cases)
    ((rw c.deref-2.ensures.value at c.are_set-2.ensures.set) c.if-not-are_set.false)

pub returns-then-not-are_set : goal.returns-then-not-are_set
returns-then-not-are_set t c = record {
  found = none_found c.requires.player c.requires.below c.in_ok-mark.ensures
      ((rw c.deref-2.ensures.value at c.are_set-2.ensures.unset) c.if-not-are_set.true) _
      c.requires.found;
}

pub push_below-requires : goal.push_below-requires
push_below-requires t c =
    let below = rw c.in-Some.ensures.cases.0 at c.requires.below in
    let next = next_searched below c.loop-before.before
    (omega (arith, c.loop-before-test.true, c.actions_tried-tried.ensures.upto))
    c.in_ok-choose_at.ensures.level c.from.ensures c.in_ok-choose_at.ensures.chosen in (
      omega (arith, c.decreases, ap length c.in-Some.ensures.cases.0),
      (c.requires.player, (next, c.loop-before.invariant)),
    )

pub loop-before-preserved : goal.loop-before-preserved
loop-before-preserved t c =
    let before = c.loop-before.before in
    let each = c.args.count / c.in-Some.digit.now.actions in
    let row : c.args.number + before * each + each ≡ c.args.number + (before + 1) * each =
    omega arith in
    subst (AreFoundTo c.args.player.now.game.now c.args.player.now.number
    c.push_below.new.self.numbers.items) row c.in_ok-push_below.ensures.found

pub returns : goal.returns
returns t c =
    let below = rw c.in-Some.ensures.cases.0 at c.requires.below in
    let end : c.loop-before.before ≡ c.actions_tried-tried.result =
    omega (arith, c.loop-before-test.false, c.loop-before.auto.before-end) in record {
      found = all_found c.requires.player below c.in_ok-mark.ensures _
          (end ∙ c.actions_tried-tried.ensures.all) _ c.loop-before.invariant;
    }

pub actions_tried-tried-requires-clause-there : goal.actions_tried-tried-requires-clause-there
actions_tried-tried-requires-clause-there t c = grind (arith, common_steps)

pub choose_at-requires-clause-there : goal.choose_at-requires-clause-there
choose_at-requires-clause-there t c = grind (arith, common_steps)
