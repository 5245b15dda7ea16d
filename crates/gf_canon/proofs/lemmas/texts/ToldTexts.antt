-- The text of what was told, line by line, is the text of the game.
use Rattle.gf_canon.proofs.Common.{flat_map-append, canonical_game, canonical_text, append_assoc, ℕ}
use Rattle.gf_canon.proofs.Common.{append-nil, extensive, game_text, node_line, told_text, FileNode}
use Rattle.gf_canon.proofs.Common.{flat_map, Heading, file_by, game_by, node_by, Aside, Names, Game}
use Rattle.gf_canon.proofs.Common.{Kept, List, Told, refl, ◌++◌, map, ◌∷◌, ◌≡◌, [], arith}
use Rattle.gf_tree.specs.ToldGame.{HasToldGame}
use Rattle.gf_canon.proofs.lemmas.sameness.NodesNamed.{nodes_by}
use Rattle.gf_canon.proofs.lemmas.texts.Fields.{game_text_is, node_lines}

-- one more node is one more line
pub one_line_more : (names : Names) (heading : Heading) (told : List Told) (t : Told) (n : FileNode)
    (old new : List ℕ) → n ≡ node_by names t.node → old ≡ told_text names heading told
    → new ≡ old ++ node_line n → new ≡ told_text names heading (told ++ t ∷ [])
one_line_more names heading told t n old new is before more =
    grind (arith, append_assoc, append-nil, flat_map-append)

lines_of_told : (names : Names) (told : List Told)
    → flat_map (λ t. node_line (node_by names t.node)) told
    ≡ node_lines (map (node_by names) (map (λ t. t.node) told))
lines_of_told names [] = refl
lines_of_told names (t ∷ told) = cc (lines_of_told names told)

-- the lines of a game that was told are its canonical text, as far as names count
text_by : (names : Names) (g : Game) → canonical_text (file_by names (extensive g))
    ≡ game_text (canonical_game (game_by names g))
text_by Kept g = refl
text_by Aside g = refl

pub told_is_canonical : {T : Type 0} (text : T → List ℕ) (kept : T → Type 0) (names : Names)
    (to : T) (g : Game)
    → HasToldGame (λ to heading told. kept to × (text to ≡ told_text names heading told)) to g
    → text to ≡ canonical_text (file_by names (extensive g))
told_is_canonical text kept names to g h =
    let is = game_text_is (canonical_game (game_by names g)) in
    grind (arith, lines_of_told names h.told, nodes_by names g, text_by names g)
