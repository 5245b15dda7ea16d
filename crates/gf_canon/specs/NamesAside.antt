-- Games and tables without the names that nobody plays by.
use Rattle.std.specs.Prelude.{ℕ, List, [], map}
use Rattle.gf_nfg.specs.Table.{Table}
use Rattle.gf_tree.specs.Tree.{map_tree}
use Rattle.gf_tree.specs.Game.{Node, Game}
use Rattle.gf_tree.specs.Unnamed.{unnamed_outcome, unnamed_set}
use Rattle.gf_canon.specs.CanonicalText.{IsTextOf}
use Rattle.gf_canon.specs.GameFile.{GameFile, SameFile, canonical_text}
use Rattle.gf_canon.specs.GameFile.GameFile.{extensive, strategic}
use Rattle.gf_token.specs.declared.names.Names.{Names}

abbrev pub unnamed_node : Node → Node
unnamed_node n = record n { name = [] }

-- Title, comment, and the names of nodes, sets and outcomes are empty. Labels of players and
-- actions stay.
abbrev pub unnamed_game : Game → Game
unnamed_game g = record g {
  title = [];
  comment = [];
  tree = map_tree unnamed_node g.tree;
  sets = map (λ s. record { key = s.key; description = unnamed_set s.description }) g.sets;
  outcomes =
      map (λ o. record { key = o.key; description = unnamed_outcome o.description }) g.outcomes;
}

-- Title and comment are empty. Labels of players and strategies stay.
abbrev pub unnamed_table : Table → Table
unnamed_table t = record t { title = []; comment = [] }

abbrev pub unnamed : GameFile → GameFile
unnamed (extensive g) = extensive (unnamed_game g)
unnamed (strategic t) = strategic (unnamed_table t)

-- what counts of a file, with its names or without
abbrev pub file_by : Names → GameFile → GameFile
file_by Names.Kept x = x
file_by Names.Aside x = unnamed x

-- the bytes mean a file, and this is the canonical text of what counts of it
abbrev pub IsTextBy : Names → List ℕ → List ℕ → Type 0
IsTextBy names = IsTextOf (λ x. canonical_text (file_by names x))

-- the same aside from names
abbrev pub SameAsideNames : GameFile → GameFile → Type 0
SameAsideNames a b = SameFile (unnamed a) (unnamed b)
