use Rattle.gf_form.proofs.Common.{◌∙◌, ◌≤◌, arith, on_ok_weaker}
use Rattle.gf_form.proofs.lemmas.rows.FlatRows.{both_go, first_merge, free_goes, own_goes}
use Rattle.gf_form.proofs.lemmas.rows.FlatRows.{demands_read, frees_left, owns_left}
use Rattle.gf_form.proofs.rows.terms.Terms.merge.Goals.{else-loop-free-test}
use Rattle.gf_form.proofs.rows.terms.Terms.merge.Goals.{then-loop-free-test+else-own-chosen}
use Rattle.gf_form.proofs.rows.terms.Terms.merge.Goals as goal

pub loop-free-init : goal.loop-free-init
loop-free-init c =
    first_merge c.args.from.now c.args.step c.args.action c.args.chosen c.requires.some
    c.requires.chosen c.clear.new.self c.clear.ensures.none c.clear.ensures.shaped
    (c.clear.ensures.players ∙ c.requires.players, c.clear.ensures.den)

pub overflow_sub-goes : goal.overflow_sub-goes
overflow_sub-goes c = grind (arith, demands_read)

pub loop-free-preserved-then-stays-goes : goal.loop-free-preserved-then-stays-goes
loop-free-preserved-then-stays-goes c =
    both_go c.requires.order.1 c.loop-free.invariant c.in_ok-push_sum.ensures.alike
    c.in_ok-push_sum.ensures.shaped c.loop-free-test.true c.if-own-chosen.true
    (grind (arith, demands_read)) c.in_ok-push_sum.ensures.sum

pub loop-free-preserved-then-stays-goes-2 : goal.loop-free-preserved-then-stays-goes-2
loop-free-preserved-then-stays-goes-2 c =
    free_goes c.requires.order.1 c.loop-free.invariant c.in_ok-push.ensures.alike
    c.in_ok-push.ensures.shaped c.loop-free-test.true (λ _. grind (arith, demands_read))
    c.in_ok-push.ensures.pushed

pub push-requires-else-stays-goes-2-clause-less : goal.push-requires-else-stays-goes-2-clause-less
push-requires-else-stays-goes-2-clause-less c = grind arith

pub loop-free-preserved : goal.loop-free-preserved
loop-free-preserved c =
    own_goes c.requires.order.1 c.loop-free.invariant c.in_ok-push-2.ensures.alike
    c.in_ok-push-2.ensures.shaped c.if-own-chosen.true (λ _. grind (arith, demands_read))
    c.in_ok-push-2.ensures.pushed

pub returns-then-own-chosen-2-clause-merged : goal.returns-then-own-chosen-2-clause-merged
returns-then-own-chosen-2-clause-merged c =
    let past : c.args.chosen.free ≤ c.loop-free.free = elim c.loop-free-test.branch [
      | then-loop-free-test+else-own-chosen w ↦ omega (
        arith,
        w.if-own-chosen.false,
        c.if-own-chosen-2.true,
      )
      | else-loop-free-test w ↦ w.loop-free-test.false
    ] in
    on_ok_weaker c.push_part.result
    (owns_left c.push_part.new.self c.loop-free.invariant past) c.push_part.ensures.pushed

pub returns-clause-merged : goal.returns-clause-merged
returns-clause-merged c =
    on_ok_weaker c.push_part-2.result
    (frees_left c.push_part-2.new.self c.loop-free.invariant c.if-own-chosen-2.false)
    c.push_part-2.ensures.pushed
