-- What is written about files that are read: what one holds, the text of a table, and whether two are
-- the same; and why nothing is.
use Rattle.std.specs.Prelude.{◌≡◌, ◌≢◌, ◌⊎◌, ◌↔◌, ℕ, Bool, true, false, IsTrue, List, ◌++◌, codes, decimal}
use Rattle.std.specs.List.{flat_map}
use Rattle.gf_nfg.specs.Table.{Table}
use Rattle.gf_nfg.specs.TableText.{table_text}
use Rattle.gf_tree.specs.Game.{Game}
use Rattle.gf_tree.specs.Renumbering.{Renumbering}
use Rattle.gf_tree.specs.SameGame.{Carries, SameGame}
use Rattle.gf_token.specs.declared.form_fault.FormFault.{FormFault}
use Rattle.gf_token.specs.declared.names.Names.{Names}
use Rattle.gf_canon.specs.CanonicalText.{SpellsWithin}
use Rattle.gf_canon.specs.GameFile.{GameFile}
use Rattle.gf_canon.specs.Judgement.{IsRefusedWith, MeansFile}
use Rattle.gf_canon.specs.NamesAside.{IsTextBy}
use Rattle.gf_canon.specs.Pairs.{renumbering_pairs}
use Rattle.gf_canon.specs.declared.kind.FileKind.{FileKind}
use Rattle.gf_canon.specs.declared.numbering.pairs.NumberPair.{NumberPair}
use Rattle.gf_form.specs.Forms.{IsFormOf, IsWithoutForm}
use Rattle.gf_form.specs.declared.forms.Strategies.{Strategies}
use Rattle.gf_run.specs.declared.fault.RunFault.{RunFault}
use Rattle.gf_run.specs.declared.fault.Which.{Which}

-- ---- the kind of a file

-- the line for a file of this kind
abbrev pub kind_line : FileKind → List ℕ
kind_line FileKind.Tree = codes "tree\n"
kind_line FileKind.Strategic = codes "table\n"

-- ---- its canonical text

-- the bytes mean a file, and this says whether they are its canonical text
abbrev pub AreCanonical : Names → List ℕ → Bool → Type 0
AreCanonical names bytes true = IsTextBy names bytes bytes
AreCanonical names bytes false = (text : List ℕ) × IsTextBy names bytes text × (bytes ≢ text)

-- ---- the table of a file, which is the form of a tree by some strategies, or the table itself

-- the bytes mean a tree or a table within the limit, and this is the canonical text of its form, or of
-- the table itself
abbrev pub IsFormText : Strategies → (bytes text : List ℕ) → Type 0
IsFormText strategies bytes text = (t : Table) × (text ≡ table_text t)
    × (((g : Game) × SpellsWithin bytes (GameFile.extensive g) × IsFormOf strategies g t)
    ⊎ SpellsWithin bytes (GameFile.strategic t))

-- ---- two files that are compared

-- the line of an answer
abbrev pub answer_line : Bool → List ℕ
answer_line true = codes "same\n"
answer_line false = codes "different\n"

-- a number and its new number, after what they are of
abbrev pub numbers_line : List ℕ → ℕ → ℕ → List ℕ
numbers_line start number new_number =
    start ++ codes " " ++ decimal number ++ codes " " ++ decimal new_number ++ codes "\n"

-- `set P X Y` for a set of player P, and `outcome X Y` for an outcome
abbrev pub pair_line : NumberPair → List ℕ
pair_line (NumberPair.Set player number new_number) =
    numbers_line (codes "set " ++ decimal player) number new_number
pair_line (NumberPair.Outcome number new_number) = numbers_line (codes "outcome") number new_number

-- only the line
abbrev pub IsLine : GameFile → GameFile → Bool → List ℕ → Type 0
IsLine x y same text = text ≡ answer_line same

-- the line, followed, if two games are the same, by a line for each set and then one for each
-- outcome, of each renumbering that carries the first to the second; so all of these have the same
-- lines
abbrev pub IsLineAndMap : GameFile → GameFile → Bool → List ℕ → Type 0
IsLineAndMap (GameFile.extensive g) (GameFile.extensive h) true text = SameGame g h
    × ((r : Renumbering) → Carries r g h
    → text ≡ answer_line true ++ flat_map pair_line (renumbering_pairs r g))
IsLineAndMap x y same text = IsLine x y same text

-- the bytes mean two files, and this says whether they are the same, and this is its text
abbrev pub IsAnswer : (Same : GameFile → GameFile → Type 0)
    → (IsText : GameFile → GameFile → Bool → List ℕ → Type 0) → Bool → (a b text : List ℕ) → Type 0
IsAnswer Same IsText same a b text = (x y : GameFile) × SpellsWithin a x × SpellsWithin b y
    × (IsTrue same ↔ Same x y) × IsText x y same text

-- ---- why the bytes of inputs that were read whole have no answer

-- the bytes of the one input are refused with this fault
abbrev pub IsRefusal : List ℕ → RunFault → Type 0
IsRefusal bytes (RunFault.Refused which fault) = (which ≡ Which.Only) × IsRefusedWith bytes fault
IsRefusal bytes fault = ⊥

-- the bytes are refused with this fault; or they mean a file, and memory ran out
abbrev pub IsFaultOfFile : List ℕ → RunFault → Type 0
IsFaultOfFile bytes RunFault.Memory = MeansFile bytes
IsFaultOfFile bytes fault = IsRefusal bytes fault

-- the same, or they mean a tree that has no table
abbrev pub IsFaultOfBytes : Strategies → List ℕ → RunFault → Type 0
IsFaultOfBytes strategies bytes (RunFault.Form FormFault.Memory) = ⊥
IsFaultOfBytes strategies bytes (RunFault.Form fault) =
    (g : Game) × SpellsWithin bytes (GameFile.extensive g) × IsWithoutForm strategies g fault
IsFaultOfBytes strategies bytes fault = IsFaultOfFile bytes fault

-- Of two inputs: the first is refused; or it is not, and the second is; or both mean files, and
-- memory ran out.
abbrev pub IsFaultOfFiles : List ℕ → List ℕ → RunFault → Type 0
IsFaultOfFiles a b (RunFault.Refused Which.First fault) = IsRefusedWith a fault
IsFaultOfFiles a b (RunFault.Refused Which.Second fault) = MeansFile a × IsRefusedWith b fault
IsFaultOfFiles a b RunFault.Memory = MeansFile a × MeansFile b
IsFaultOfFiles a b fault = ⊥
