-- What is told of a file of either format.
use Rattle.std.specs.Prelude.{ℕ, List}
use Rattle.gf_nfg.specs.Limit.{IsWithinLimit}
use Rattle.gf_nfg.specs.Table.{Table}
use Rattle.gf_nfg.specs.TableText.{SpellsTable}
use Rattle.gf_tree.specs.Game.{Game}
use Rattle.gf_tree.specs.GameOf.{SpellsGame}
use Rattle.gf_tree.specs.Told.{Heading, Told}
use Rattle.gf_tree.specs.ToldGame.{HasToldGame}
use Rattle.gf_canon.specs.declared.kind.FileKind.{FileKind}

-- a receiver was told a tree, and nothing of a table
abbrev pub IsToldFile : {T : Type 0} → (T → Heading → List Told → Type 0) → T → List ℕ → FileKind
    → Type 0
IsToldFile holds to bytes FileKind.Tree = (g : Game) × SpellsGame bytes g × HasToldGame holds to g
IsToldFile holds to bytes FileKind.Strategic = (t : Table) × SpellsTable bytes t × IsWithinLimit t
