use Rattle.gf_form.proofs.Common.{Node, Tree, ap, arith, root_node, sym, ◌∙◌}
use Rattle.std.proofs.lemmas.Option.{slice_get_within}
use Rattle.gf_form.proofs.lemmas.values.Still.{next_still, still_by_chance, still_known, still_leaf}
use Rattle.gf_form.specs.inner.values.Still.{IsStill}
use Rattle.gf_form.specs.inner.values.ValueLeft.{tree_there}
use Rattle.gf_form.proofs.values.walk.Walk.is_still.Goals as goal
use goal.{else-is_none-via-then-is_none+else-is_some, else-is_none-via-else-is_none}

pub loop-before-preserved : goal.loop-before-preserved
loop-before-preserved c =
    let w = c.args.self.now in
    let here : IsStill w.game.now (tree_there w c.in-Some.child) = elim c.else-is_none.branch [
      | else-is_none-via-then-is_none+else-is_some h ↦
          grind (arith, still_leaf, h.mover-then-is_none.ensures)
      | else-is_none-via-else-is_none h ↦
          grind (arith, still_known, c.still_row.ensures w.game.now c.requires.walk.nodes)
    ] in
    next_still w.game.now _ c.loop-before.before _ c.in-Some.ensures.1 here c.loop-before.invariant

pub returns : goal.returns
returns c _ =
    let w = c.args.self.now in
    let m = c.in-Some-eq0-default.ensures.mover in
    still_by_chance w.game.now (tree_there w c.args.node) m.0
    (ap (λ (t : Tree Node). (root_node t).set) (sym c.branch-branch.ensures.tree) ∙ m.1)
    (grind arith)
    (λ k child there. c.loop-before.invariant k child (grind (arith, slice_get_within)) there)
