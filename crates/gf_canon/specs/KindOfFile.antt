-- The kind of a file, by what it means.
use Rattle.std.specs.Prelude.{◌≡◌, ℕ, List}
use Rattle.gf_canon.specs.GameFile.{GameFile}
use Rattle.gf_canon.specs.GameFile.GameFile.{extensive, strategic}
use Rattle.gf_canon.specs.CanonicalText.{SpellsWithin}
use Rattle.gf_canon.specs.declared.kind.FileKind.{FileKind}

abbrev pub kind_of : GameFile → FileKind
kind_of (extensive g) = FileKind.Tree
kind_of (strategic t) = FileKind.Strategic

-- the bytes mean a file of this kind, within the limit
abbrev pub MeansFileOf : List ℕ → FileKind → Type 0
MeansFileOf bytes kind = (x : GameFile) × SpellsWithin bytes x × (kind ≡ kind_of x)
