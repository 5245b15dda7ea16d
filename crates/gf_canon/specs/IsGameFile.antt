-- Which values of `GameFile` are games or tables; all that bytes mean are.
use Rattle.gf_nfg.specs.Table.{IsTable}
use Rattle.gf_tree.specs.IsGame.{IsGame}
use Rattle.gf_canon.specs.GameFile.{GameFile}
use Rattle.gf_canon.specs.GameFile.GameFile.{extensive, strategic}

abbrev pub IsGameFile : GameFile → Type 0
IsGameFile (extensive g) = IsGame g
IsGameFile (strategic t) = IsTable t
