-- Game files of both kinds: when they mean the same, and their canonical text.
use Rattle.std.specs.Prelude.{ℕ, List}
use Rattle.gf_nfg.specs.Table.{Table}
use Rattle.gf_nfg.specs.SameTable.{SameTable}
use Rattle.gf_nfg.specs.TableText.{table_text, SpellsTable}
use Rattle.gf_tree.specs.Game.{Game}
use Rattle.gf_tree.specs.GameOf.{SpellsGame}
use Rattle.gf_tree.specs.SameGame.{SameGame}
use Rattle.gf_tree.specs.CanonicalGame.{canonical_game}
use Rattle.gf_canon.specs.GameText.{game_text}

-- what a file means
pub data GameFile : Type 0 where
  extensive : Game → GameFile
  strategic : Table → GameFile

-- these bytes mean it
abbrev pub SpellsFile : List ℕ → GameFile → Type 0
SpellsFile bytes (extensive g) = SpellsGame bytes g
SpellsFile bytes (strategic t) = SpellsTable bytes t

-- a game and a table are never the same
abbrev pub SameFile : GameFile → GameFile → Type 0
SameFile (extensive g) (extensive h) = SameGame g h
SameFile (strategic t) (strategic u) = SameTable t u
SameFile _ _ = ⊥

-- the canonical text: of a game by its first-use numbers; of a table its own, since it has no numbers
-- of sets or outcomes
abbrev pub canonical_text : GameFile → List ℕ
canonical_text (extensive g) = game_text (canonical_game g)
canonical_text (strategic t) = table_text t
