use Rattle.gf_tree.proofs.Common.{◌∙◌, ◌+◌, ◌∷◌, ap, sym, drop, rules, at_drop_more, action_of}
use Rattle.gf_tree.proofs.Common.{actions_of, KnownAction, heard}
use Rattle.gf_tree.specs.declared.game.action.Action.{Action}
use Rattle.gf_tree.proofs.lemmas.reader.Steps.{carried, goes_back}
use Rattle.gf_tree.proofs.reader.again.actions_again.Goals as goal

pub returns-in_err-action_again-clause-machine : goal.returns-in_err-action_again-clause-machine
returns-in_err-action_again-clause-machine c = λ content b.
    let i = c.loop-action.action-index in
    let others = drop (i + 1) c.args.actions.now in
    goes_back _ (search rules) (carried
    (c.in_err-action_again.ensures.machine content b (actions_of others))
    (c.loop-action.invariant.goes content b
    ∙ at_drop_more (λ actions. heard (KnownAction b (actions_of actions)) content
    c.loop-action.tokens) c.args.actions.now i c.action-item.result c.loop-action-test.true
    ∙ ap (λ (a : Action). heard (KnownAction b (action_of a ∷ actions_of others)) content
    c.loop-action.tokens) (sym c.action-item.is)))
