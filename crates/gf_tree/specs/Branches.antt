-- What a branch stands for.
use Rattle.gf_tree.specs.Tree.{Tree}
use Rattle.gf_tree.specs.Subtrees.{subtree_at}
use Rattle.gf_tree.specs.declared.game.branch.Branch.{Branch}
use Rattle.gf_tree.specs.Game.{Node, Game}

-- the game whose branch it is
abbrev pub game_of : Branch → Game
game_of b = b.game.now

-- the subtree
abbrev pub tree_of : Branch → Tree Node
tree_of b = subtree_at b.game.now.tree b.at
