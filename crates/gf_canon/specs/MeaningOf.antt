-- What a file that was read means.
use Rattle.gf_canon.specs.GameFile.{GameFile}
use Rattle.gf_canon.specs.declared.meaning.Listed.{Listed}
use Rattle.gf_canon.specs.declared.meaning.Meaning.{Meaning}

abbrev pub file_of : Meaning → GameFile
file_of (Meaning.Tree g) = GameFile.extensive g
file_of (Meaning.Table t) = GameFile.strategic t

abbrev pub file_of_listed : Listed → GameFile
file_of_listed (Listed.Tree g) = GameFile.extensive g
file_of_listed (Listed.Table t) = GameFile.strategic t
