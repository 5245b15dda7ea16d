-- What an iterator over branches stands for.
use Rattle.std.specs.Prelude.{◌≡◌, ◌+◌, ℕ, List, drop, Option, MatchOption}
use Rattle.std.specs.Iterator.{YieldsFirstBy}
use Rattle.gf_tree.specs.Tree.{Tree}
use Rattle.gf_tree.specs.Game.{Game, Node}
use Rattle.gf_tree.specs.Branches.{game_of, tree_of}
use Rattle.gf_tree.specs.Subtrees.{child_trees, subtree_at}
use Rattle.gf_tree.specs.declared.game.branch.Branch.{Branch}
use Rattle.gf_tree.specs.declared.game.branches.Branches.{Branches}

-- the game whose branches they are
abbrev pub game_of_branches : Branches → Game
game_of_branches b = b.game.now

-- the subtrees that it can still give, from the first to the last
abbrev pub branches_left : Branches → List (Tree Node)
branches_left b = drop b.before (child_trees (subtree_at b.game.now.tree b.at))

-- how many it has given
abbrev pub branches_given : Branches → ℕ
branches_given b = b.before

-- it gives the branch of the next of them, and stays with its game
abbrev pub YieldsBranches : Branches → Option Branch → Branches → Type 0
YieldsBranches old next new = YieldsFirstBy tree_of branches_left old next new
    × (game_of_branches new ≡ game_of_branches old)
    × MatchOption next (branches_given new ≡ branches_given old)
    (λ b. (game_of b ≡ game_of_branches old)
    × (branches_given new ≡ branches_given old + 1))
