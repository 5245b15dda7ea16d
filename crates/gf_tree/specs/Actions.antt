-- What an action is, to its callers.
use Rattle.std.specs.Prelude.{List, map}
use Rattle.gf_token.specs.Label.{label_of}
use Rattle.gf_tree.specs.declared.game.action.Action.{Action as Held}
use Rattle.gf_tree.specs.Description.{Action}

abbrev pub action_of : Held → Action
action_of a = record { label = label_of a.label; probability = a.probability }

abbrev pub actions_of : List Held → List Action
actions_of actions = map action_of actions
