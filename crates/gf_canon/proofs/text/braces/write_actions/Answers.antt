use Rattle.gf_canon.proofs.Common.{arith, at_drop_all, flat_map, action_fields}
use Rattle.gf_tree.specs.Actions.{actions_of}
use Rattle.gf_canon.proofs.lemmas.texts.Fields.{actions_left, list_closed}
use Rattle.gf_canon.proofs.text.braces.write_actions.Goals as goal

pub returns-clause-text : goal.returns-clause-text
returns-clause-text c =
    list_closed (flat_map action_fields (actions_of c.args.actions.now)) _ _ _ _ _
    c.in_ok-extend_from_slice.ensures.items c.in_ok-push.ensures.items
    (at_drop_all actions_left c.args.actions.now c.loop-action.action-index (omega arith))
    c.loop-action.invariant.0
