-- Nodes of files without their names.
use Rattle.std.specs.Prelude.{[], option_map}
use Rattle.gf_tree.specs.Description.{InformationSet, Outcome}
use Rattle.gf_tree.specs.FileTree.{FileNode, Use}

abbrev pub unnamed_set : InformationSet → InformationSet
unnamed_set set = record set { name = [] }

abbrev pub unnamed_outcome : Outcome → Outcome
unnamed_outcome outcome = record outcome { name = [] }

-- f of the description, if there is one
abbrev pub use_by : {K D : Type 0} → (D → D) → Use K D → Use K D
use_by f u = record u { description = option_map f u.description }

-- The labels of actions stay.
abbrev pub unnamed_file_node : FileNode → FileNode
unnamed_file_node n = record {
  name = [];
  set = option_map (use_by unnamed_set) n.set;
  outcome = option_map (use_by unnamed_outcome) n.outcome;
}
