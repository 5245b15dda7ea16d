-- The texts of two files, with names or without, are equal exactly when the files are the same in
-- this sense.
use Rattle.gf_canon.proofs.Common.{SpellsWithin, GameFile, IsTextBy, ℕ}
use Rattle.gf_canon.proofs.Common.{SameBy, Names, List, ◌≡◌, ◌↔◌, arith}
use Rattle.gf_canon.proofs.lemmas.files.Judged.{text_is}
use Rattle.gf_canon.proofs.lemmas.files.Texts.{equal_canonical_texts}
use Rattle.gf_canon.proofs.lemmas.sameness.Unnamed.{equal_texts_aside}

pub equal_texts_by : (names : Names) (a b s t : List ℕ) → IsTextBy names a s → IsTextBy names b t
    → (x y : GameFile) → SpellsWithin a x → SpellsWithin b y → (s ≡ t) ↔ SameBy names x y
equal_texts_by names a b s t p q x y of_x of_y =
    rw (text_is names a s x p of_x.spelled, text_is names b t y q of_y.spelled)
    (grind (arith, equal_canonical_texts, equal_texts_aside))
