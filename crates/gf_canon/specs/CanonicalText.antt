-- The canonical text of bytes, and when two lists of bytes mean the same.
use Rattle.std.specs.Prelude.{◌≡◌, ℕ, List}
use Rattle.gf_nfg.specs.Limit.{IsWithinLimit}
use Rattle.gf_canon.specs.GameFile.{GameFile, SameFile, SpellsFile, canonical_text}
use Rattle.gf_canon.specs.GameFile.GameFile.{extensive, strategic}

-- a table has no more profiles than it may have; a game has no limit
abbrev pub IsFileWithinLimit : GameFile → Type 0
IsFileWithinLimit (extensive g) = Unit {0}
IsFileWithinLimit (strategic t) = IsWithinLimit t

-- the bytes mean this file, and it is within the limit
pub record SpellsWithin (bytes : List ℕ) (x : GameFile) : Type 0 where
  pub spelled : SpellsFile bytes x
  pub within : IsFileWithinLimit x

-- the bytes mean a file, and this is the text that is written of it
pub record IsTextOf (written : GameFile → List ℕ) (bytes text : List ℕ) : Type 0 where
  pub file : GameFile
  pub spelled : SpellsWithin bytes file
  pub is_text : text ≡ written file

-- the bytes mean a file, and this is its canonical text
abbrev pub IsCanonicalText : List ℕ → List ℕ → Type 0
IsCanonicalText bytes text = IsTextOf canonical_text bytes text

-- they mean two files, and these are the same
abbrev pub MeanSame : List ℕ → List ℕ → Type 0
MeanSame a b = (x y : GameFile) × SpellsWithin a x × SpellsWithin b y × SameFile x y
