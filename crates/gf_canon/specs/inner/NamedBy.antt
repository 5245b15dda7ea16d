-- What counts of the heading, the nodes and the descriptions of a game, with names or without them.
use Rattle.gf_token.specs.NameBy.{name_by}
use Rattle.gf_tree.specs.Description.{InformationSet, Outcome}
use Rattle.gf_tree.specs.FileTree.{FileNode}
use Rattle.gf_tree.specs.Game.{Game}
use Rattle.gf_tree.specs.Told.{Heading}
use Rattle.gf_tree.specs.Unnamed.{unnamed_file_node}
use Rattle.gf_canon.specs.NamesAside.{unnamed_game}
use Rattle.gf_token.specs.declared.names.Names.{Names}

abbrev pub set_by : Names → InformationSet → InformationSet
set_by names set = record set { name = name_by names set.name }

abbrev pub outcome_by : Names → Outcome → Outcome
outcome_by names outcome = record outcome { name = name_by names outcome.name }

abbrev pub node_by : Names → FileNode → FileNode
node_by Names.Kept n = n
node_by Names.Aside n = unnamed_file_node n

abbrev pub heading_by : Names → Heading → Heading
heading_by names h = record h {
  title = name_by names h.title;
  comment = name_by names h.comment;
}

abbrev pub game_by : Names → Game → Game
game_by Names.Kept g = g
game_by Names.Aside g = unnamed_game g
