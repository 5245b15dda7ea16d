-- What a node is, as a file gives it.
use Rattle.std.specs.Prelude.{ℕ, option_map}
use Rattle.gf_token.specs.Label.{label_of}
use Rattle.gf_tree.specs.Actions.{actions_of}
use Rattle.gf_tree.specs.FileTree.{Use}
use Rattle.gf_tree.specs.Description.{SetKey, InformationSet, Outcome, set_of}
use Rattle.gf_tree.specs.declared.game.file_node.FileNode.{FileNode}
use Rattle.gf_tree.specs.declared.game.file_node.SetUse.{SetUse}
use Rattle.gf_tree.specs.declared.game.file_node.SetDescription.{SetDescription}
use Rattle.gf_tree.specs.declared.game.file_node.OutcomeUse.{OutcomeUse}
use Rattle.gf_tree.specs.declared.game.file_node.OutcomeDescription.{OutcomeDescription}
use Rattle.gf_tree.specs.FileTree as file

abbrev pub described_set : SetDescription → InformationSet
described_set d = record { name = label_of d.name; actions = actions_of d.actions.now }

abbrev pub described_outcome : OutcomeDescription → Outcome
described_outcome d = record { name = label_of d.name; payoffs = d.payoffs.now }

abbrev pub set_use_of : SetUse → Use SetKey InformationSet
set_use_of u = record {
  key = set_of u.player u.number;
  description = option_map described_set u.description;
}

abbrev pub outcome_use_of : OutcomeUse → Use ℕ Outcome
outcome_use_of u =
    record { key = u.number; description = option_map described_outcome u.description }

abbrev pub file_node_of : FileNode → file.FileNode
file_node_of n = record {
  name = label_of n.name;
  set = option_map set_use_of n.set;
  outcome = option_map outcome_use_of n.outcome;
}
