-- Worked games: one with many numberings, and its text.
use Rattle.gf_canon.proofs.Common.{same_by_canonical, SameGame, IsGame, arith, refl}
use Rattle.gf_tree.specs.WorkedTrees.{five_file, five}
use Rattle.gf_tree.proofs.Offered.{spelled_is_spellable, five_is_meant}
use Rattle.gf_canon.specs.WorkedGames.{numbered_five}

-- ---- the same by other numbers

five_is_game : IsGame five
five_is_game = (spelled_is_spellable five_file five five_is_meant).0

pub five_same : SameGame five (numbered_five 2 3 8 2)
five_same =
    let copy : IsGame (numbered_five 2 3 8 2) = grind (arith, five_is_game.each_set) in
    (same_by_canonical five (numbered_five 2 3 8 2) five_is_game copy).1 refl
