-- Nodes of a file without what they describe.
use Rattle.std.specs.Prelude.{None, option_map}
use Rattle.gf_tree.specs.FileTree.{Use, FileNode}

abbrev pub undescribed_use : {K D : Type 0} → Use K D → Use K D
undescribed_use u = record u { description = None }

-- the node without what it describes
abbrev pub undescribed : FileNode → FileNode
undescribed n = record n {
  set = option_map undescribed_use n.set;
  outcome = option_map undescribed_use n.outcome;
}
