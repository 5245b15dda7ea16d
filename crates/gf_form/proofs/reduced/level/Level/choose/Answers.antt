use Rattle.gf_form.proofs.Common.{arith}
use Rattle.gf_form.proofs.lemmas.reduced.LevelsChosen.{all_taken, one_taken}
use Rattle.gf_form.proofs.reduced.level.Level.choose.Goals as goal

pub loop-visit-init : goal.loop-visit-init
loop-visit-init c =
    let are = rw c.deref-2.ensures.value at c.parts_of-parts.ensures.left in record {
      counted = grind arith;
      adds = grind (arith, are, c.clear.ensures.items);
      last = 0;
      before = grind (arith, c.clear.ensures.items);
      after = c.parts_of-parts.ensures.ordered;
    }

pub loop-visit-preserved : goal.loop-visit-preserved
loop-visit-preserved c =
    one_taken _ _ _ _ _ c.loop-visit.invariant _ _ _ c.in-Some.ensures c.in_ok-add.ensures

pub returns-clause-chosen : goal.returns-clause-chosen
returns-clause-chosen c = all_taken _ _ _ _ _ c.loop-visit.invariant c.in_default.ensures
