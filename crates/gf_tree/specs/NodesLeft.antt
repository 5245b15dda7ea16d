-- What an iterator over nodes stands for.
use Rattle.std.specs.Prelude.{List, drop, map}
use Rattle.gf_tree.specs.PrefixOrder.{flatten}
use Rattle.gf_tree.specs.Game.{Node}
use Rattle.gf_tree.specs.declared.game.nodes.Nodes.{Nodes}

-- the nodes that it can still give, in prefix order
abbrev pub nodes_left : Nodes → List Node
nodes_left n = drop n.next_place (map (λ e. e.node) (flatten n.game.now.tree))
