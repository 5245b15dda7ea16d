use Rattle.gf_form.proofs.Common.{game_of, arith, sym, ◌∙◌}
use Rattle.gf_form.proofs.lemmas.rows.Descents.{step_there, entered, below_last}
use Rattle.gf_form.proofs.rows.descent.Descent.enter.Goals as goal

pub returns-clause-left : goal.returns-clause-left
returns-clause-left g c =
    let m = c.in-Some.ensures.mover in
    let steps = c.args.self.now.steps in
    let b = c.args.branch.now in
    let told = entered g.S.Handed.handing steps b c.args.state.now m.0 c.at-step.result
    c.demanded.result c.child_branches.result m.1
    (step_there steps (game_of b) c.in-Some.player c.in-Some.position m.0
    c.in-Some.ensures.is_game m.2 m.3 ∙ sym c.at-step.ensures)
    (cc (c.demanded.ensures, c.demands.ensures, c.children.ensures))
    c.child_branches.ensures.game c.child_branches.ensures.trees c.child_branches.ensures.none in
    grind (arith, below_last, c.requires, c.in_ok-push.ensures.items)
