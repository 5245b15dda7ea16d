-- Which files are the same, with their names or without.
use Rattle.gf_canon.specs.GameFile.{GameFile, SameFile}
use Rattle.gf_canon.specs.NamesAside.{file_by}
use Rattle.gf_token.specs.declared.names.Names.{Names}

abbrev pub SameBy : Names → GameFile → GameFile → Type 0
SameBy names x y = SameFile (file_by names x) (file_by names y)
