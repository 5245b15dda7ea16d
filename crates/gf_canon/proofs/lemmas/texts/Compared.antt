-- The answer of a comparison speaks of whatever the two files mean, and of their canonical texts.
use Rattle.gf_canon.proofs.Common.{◌≡◌, ℕ, Bool, List, Result, Ok, Err, IfErr, IfOk, MatchResult}
use Rattle.gf_canon.proofs.Common.{◌↔◌, IsTrue, GameFile, SameFile, arith}
use Rattle.gf_canon.proofs.Common.{IsCanonicalText, MeansFile, SpellsWithin, SameBy, Names, Kept}
use Rattle.gf_canon.specs.Sameness.{AreRefusedWith, LacksMemory}
use Rattle.gf_canon.specs.declared.sameness.SameFault.{SameFault}
use Rattle.gf_canon.proofs.lemmas.files.Texts.{is_game_file, spells_one_file}
use Rattle.gf_canon.proofs.lemmas.sameness.Files.{reflexive}
use Rattle.gf_canon.proofs.lemmas.texts.ByNames.{equal_texts_by}

-- files that both mean something are refused only for lack of memory
memory_alone : (a b : List ℕ) (fault : SameFault) (x y : GameFile) → SpellsWithin a x
    → SpellsWithin b y → AreRefusedWith a b fault → LacksMemory fault
memory_alone a b fault x y of_x of_y refused = grind arith

-- the first was read
pub same_as_first : (names : Names) (result : Result Bool SameFault) (a b : List ℕ)
    (first : GameFile) → SpellsWithin a first
    → IfOk result (λ answer. (y : GameFile) × SpellsWithin b y
    × (IsTrue answer ↔ SameBy names first y))
    → IfErr result (λ fault. (bytes : List ℕ) → MeansFile bytes → AreRefusedWith bytes b fault)
    → (x y : GameFile) → SpellsWithin a x → SpellsWithin b y
    → MatchResult result (λ answer. IsTrue answer ↔ SameBy names x y) LacksMemory
same_as_first names (Ok answer) a b first of_first same refused x y of_x of_y =
    grind (arith, spells_one_file)
same_as_first names (Err fault) a b first of_first same refused x y of_x of_y =
    memory_alone a b fault x y of_x of_y (refused a (first, of_first))

-- files of equal bytes mean the same
pub same_as_itself : (names : Names) (a b : List ℕ) → a ≡ b → (x y : GameFile) → SpellsWithin a x
    → SpellsWithin b y → SameBy names x y
same_as_itself names a b equal x y of_x of_y =
    grind (arith, spells_one_file, reflexive, is_game_file)

pub same_as_texts : (result : Result Bool SameFault) (a b s t : List ℕ)
    → (p : IsCanonicalText a s) → (q : IsCanonicalText b t)
    → MatchResult result (λ answer. IsTrue answer ↔ SameFile p.file q.file) LacksMemory
    → IfOk result (λ answer. IsTrue answer ↔ (s ≡ t))
same_as_texts result a b s t p q same =
    let texts = equal_texts_by Kept a b s t p q p.file q.file p.spelled q.spelled in grind arith
