-- What is found out about a tree that is told, compared with a game.
use Rattle.std.specs.Prelude.{◌≡◌, ◌↔◌, ◌++◌, Bool, IsTrue, List, map}
use Rattle.gf_tree.specs.FileNodes.{file_nodes}
use Rattle.gf_tree.specs.FileTree.{FileNode}
use Rattle.gf_tree.specs.Game.{Game}
use Rattle.gf_tree.specs.Told.{Heading, Told, heading_in}
use Rattle.gf_tree.specs.CanonicalGame.{canonical_game}
use Rattle.gf_canon.specs.inner.NamedBy.{heading_by, node_by}
use Rattle.gf_token.specs.declared.names.Names.{Names}

-- a tree with this heading and these nodes is the same as the game, as far as names count
pub record AgreesWith (names : Names) (g : Game) (told : Heading) (given : List FileNode) : Type 0
  where
    pub heading : heading_by names (heading_in g) ≡ heading_by names told
    pub nodes : map (node_by names) (file_nodes (canonical_game g)) ≡ map (node_by names) given

-- With any nodes after those that were told, the tree is the same exactly when no difference was
-- found and these nodes are what is left of the game.
abbrev pub IsCompared : Names → Game → Bool → List FileNode → Heading → List Told → Type 0
IsCompared names g same left heading told = (rest : List FileNode)
    → AgreesWith names g heading (map (λ t. t.node) told ++ rest)
    ↔ (IsTrue same × (map (node_by names) left ≡ map (node_by names) rest))
