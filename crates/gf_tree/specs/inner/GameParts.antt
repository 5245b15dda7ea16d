-- A game as it is kept.
use Rattle.std.specs.Prelude.{◌≡◌, ℕ, List, length, map}
use Rattle.gf_token.specs.Label.{label_of}
use Rattle.gf_tree.specs.Fills.{Fills}
use Rattle.gf_tree.specs.FiniteMap.{Described}
use Rattle.gf_tree.specs.Spellable.{IsSpellable}
use Rattle.gf_tree.specs.declared.game.kept.Stored.{Stored}
use Rattle.gf_tree.specs.declared.game.parts.Parts.{Parts as StoredParts}
use Rattle.gf_tree.specs.Game.{Game}
use Rattle.gf_tree.specs.IsGame.{IsGame}
use Rattle.gf_tree.specs.Subtrees.{child_trees, root_node, subtree_at, subtree_sizes}
use Rattle.gf_tree.specs.Description.{SetKey, InformationSet, Outcome}
use Rattle.gf_tree.specs.FirstUse.{first_use_numbers}
use Rattle.gf_tree.specs.Renumbering.{renumbered}
use Rattle.gf_tree.specs.declared.game.numbered_node.Numbering.{Numbering}
use Rattle.gf_tree.specs.declared.game.numbered_node.Numbering.TheVariants.{OfFile, ByFirstUse}
use Rattle.gf_tree.specs.KeptNode.{Kept}
use Rattle.gf_tree.specs.inner.KeptNodes.{AreAmong, IsAmong, child_count, entries_with, kept_of}
use Rattle.gf_tree.specs.inner.KeptNodes.{node_with, sizes_of, tree_with}

-- all of a game but its nodes
pub record Parts : Type 0 where
  pub title : List ℕ
  pub comment : List ℕ
  pub players : List (List ℕ)
  pub sets : List (Described SetKey InformationSet)
  pub outcomes : List (Described ℕ Outcome)

abbrev pub parts_of : StoredParts → Parts
parts_of p = record {
  title = label_of p.title;
  comment = label_of p.comment;
  players = map label_of p.players.items;
  sets = p.sets.known;
  outcomes = p.outcomes.known;
}

-- the game of these parts and nodes
abbrev pub game_with : Parts → List Kept → Game
game_with p nodes = record {
  title = p.title;
  comment = p.comment;
  players = p.players;
  tree = tree_with p.sets p.outcomes nodes;
  sets = p.sets;
  outcomes = p.outcomes;
}

-- by its own numbers, or by first-use numbers
abbrev pub game_by : Numbering → Game → Game
game_by OfFile g = g
game_by ByFirstUse g = renumbered (first_use_numbers g) g

-- The nodes fill one tree, each has its set and its outcome, and its entry also has the size of its
-- subtree.
pub record AreNodes
    (sets : List (Described SetKey InformationSet)) (outcomes : List (Described ℕ Outcome))
    (nodes : List Stored) : Type 0 where
  pub placed : AreAmong (length sets) (length outcomes) (map kept_of nodes)
  pub fills : Fills 1 (entries_with sets outcomes (map kept_of nodes))
  pub sizes : sizes_of nodes ≡ subtree_sizes (tree_with sets outcomes (map kept_of nodes))

-- The nodes fill one tree, and each has its set and its outcome.
pub record IsListed (p : Parts) (nodes : List Kept) : Type 0 where
  pub placed : AreAmong (length p.sets) (length p.outcomes) nodes
  pub fills : Fills 1 (entries_with p.sets p.outcomes nodes)
  pub is_game : IsGame (game_with p nodes)
  pub spellable : IsSpellable (game_with p nodes)

pub record IsHeld (p : Parts) (nodes : List Stored) : Type 0 where
  pub nodes_are : AreNodes p.sets p.outcomes nodes
  pub is_game : IsGame (game_with p (map kept_of nodes))
  pub spellable : IsSpellable (game_with p (map kept_of nodes))

-- The node that is kept at a place of the tree.
pub record IsKeptAt (g : Game) (at : ℕ) (n : Stored) : Type 0 where
  pub node : root_node (subtree_at g.tree at) ≡ node_with g.sets g.outcomes (kept_of n)
  pub children : length (child_trees (subtree_at g.tree at)) ≡ child_count g.sets n.set
  pub placed : IsAmong (length g.sets) (length g.outcomes) (kept_of n)
