use Rattle.gf_form.proofs.Common.{arith, ap, sym, root_node, ◌∙◌, Tree, Node}
use Rattle.gf_form.proofs.lemmas.values.Walks.{child_smaller, chosen, value_by_chance, enter_steps}
use Rattle.gf_form.proofs.values.walk.Walk.enter.Goals as goal

pub returns-then-player-eq0-clause-overflow : goal.returns-then-player-eq0-clause-overflow
returns-then-player-eq0-clause-overflow c h =
    grind (arith, value_by_chance, c.draw.ensures.overflow h)

pub returns-in-None-clause-overflow : goal.returns-in-None-clause-overflow
returns-in-None-clause-overflow c h =
    let m = c.in-Some.ensures.mover in
    let set = ap (λ (t : Tree Node). (root_node t).set) (sym c.branch-branch.ensures.tree) ∙ m.1 in
    let same = c.action-action.ensures m.0 set in
    let is = chosen c.args.self.now 0 c.args.node c.action-action.result m.0 set same.0 same.1 in
    (0, c.requires.some_player, grind (arith, is, c.in-None.ensures))

pub returns-in_default-clause-gives : goal.returns-in_default-clause-gives
returns-in_default-clause-gives c = grind (arith, enter_steps)

pub returns-then-player-eq0-clause-gives : goal.returns-then-player-eq0-clause-gives
returns-then-player-eq0-clause-gives c = grind (arith, enter_steps)

pub returns-in-Some-child_by-clause-gives : goal.returns-in-Some-child_by-clause-gives
returns-in-Some-child_by-clause-gives c =
    let m = c.in-Some.ensures.mover in
    let set = ap (λ (t : Tree Node). (root_node t).set) (sym c.branch-branch.ensures.tree) ∙ m.1 in
    let same = c.action-action.ensures m.0 set in
    let child = c.in-Some-child_by.ensures in
    let smaller = child_smaller _ _ c.action-action.result child.1 in (
      (c.requires.there, child.0),
      λ k.
          let is = chosen c.args.self.now k c.args.node c.action-action.result m.0 set same.0 same.1 in
          grind (arith, is, child.1),
      omega (arith, smaller),
    )
