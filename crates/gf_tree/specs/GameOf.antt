-- The game of a consistent file tree.
use Rattle.std.specs.Prelude.{◌≡◌, ℕ, nat_eq, List, map, option_map}
use Rattle.std.specs.List.{AllByRecursion}
use Rattle.gf_token.specs.Token.{Token, Lexeme}
use Rattle.gf_token.specs.TokenSpelling.{Spells}
use Rattle.gf_tree.specs.Tree.{map_tree}
use Rattle.gf_tree.specs.PrefixOrder.{flatten}
use Rattle.gf_tree.specs.Description.{same_set}
use Rattle.gf_tree.specs.FiniteMap.{first_uses}
use Rattle.gf_tree.specs.Sentence.{Sentence}
use Rattle.gf_tree.specs.FileTree.{FileNode, FileTree, set_uses, outcome_uses}
use Rattle.gf_tree.specs.Consistent.{Describes, IsConsistent}
use Rattle.gf_tree.specs.Game.{Node, Game, used_sets, used_outcomes}

-- a node without the descriptions
abbrev pub keys_alone : FileNode → Node
keys_alone n = record {
  name = n.name;
  set = option_map (λ u. u.key) n.set;
  outcome = option_map (λ u. u.key) n.outcome;
}

-- title, comment and players are equal, and the tree is the same without the descriptions
pub record KeepsTree (f : FileTree) (g : Game) : Type 0 where
  pub title : f.title ≡ g.title
  pub comment : f.comment ≡ g.comment
  pub players : f.players ≡ g.players
  pub tree : map_tree keys_alone f.tree ≡ g.tree

-- the same tree, and for each key in it the description that the file gives
pub record IsGameOf (f : FileTree) (g : Game) : Type 0 where
  pub kept : KeepsTree f g
  pub set_keys : map (λ s. s.key) g.sets ≡ first_uses same_set (used_sets g.tree)
  pub outcome_keys : map (λ o. o.key) g.outcomes ≡ first_uses nat_eq (used_outcomes g.tree)
  pub sets : AllByRecursion (λ s. Describes (set_uses (flatten f.tree)) s.key s.description) g.sets
  pub outcomes : AllByRecursion (λ o. Describes (outcome_uses (flatten f.tree)) o.key o.description)
      g.outcomes

-- the tokens of an extensive file that means this game
abbrev pub MeansGame : List Token → Game → Type 0
MeansGame tokens g = (f : FileTree) × Sentence tokens f × IsConsistent f × IsGameOf f g

-- and its bytes
abbrev pub SpellsGame : List ℕ → Game → Type 0
SpellsGame bytes g =
    (lexemes : List Lexeme) × Spells 0 bytes lexemes × MeansGame (map (λ l. l.token) lexemes) g
