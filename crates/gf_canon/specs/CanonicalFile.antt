-- What stands for all game files that are the same.
use Rattle.gf_tree.specs.CanonicalGame.{canonical_game}
use Rattle.gf_canon.specs.GameFile.{GameFile}
use Rattle.gf_canon.specs.GameFile.GameFile.{extensive, strategic}

-- a table has no numbers of sets or outcomes
abbrev pub canonical_file : GameFile → GameFile
canonical_file (extensive g) = extensive (canonical_game g)
canonical_file (strategic t) = strategic t
