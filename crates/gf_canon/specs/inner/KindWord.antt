-- The word that names a kind of file.
use Rattle.std.specs.Prelude.{ℕ, List, codes}
use Rattle.gf_canon.specs.declared.kind.FileKind.{FileKind}

abbrev pub word_of : FileKind → List ℕ
word_of FileKind.Tree = codes "EFG"
word_of FileKind.Strategic = codes "NFG"
