-- Two games are the same exactly when their headings and their nodes by first-use numbers are
-- equal, which a walk over the nodes of both decides.
use Rattle.gf_canon.proofs.Common.{◌≡◌, List, ◌∷◌, map, ◌↔◌, file_nodes, Game}
use Rattle.gf_canon.proofs.Common.{IsGame, IsSpellable, heading_in, canonical_game, extensive}
use Rattle.gf_canon.proofs.Common.{SameBy, SameGame, Names, Aside, Kept, arith, rules}
use Rattle.gf_canon.proofs.Common.{canonical_is_game, same_by_canonical, game_by}
use Rattle.gf_canon.specs.inner.ComparedTrees.{AgreesWith}
use Rattle.gf_canon.proofs.lemmas.files.Texts.{equal_game_texts}
use Rattle.gf_canon.proofs.lemmas.sameness.NodesNamed.{nodes_by}
use Rattle.gf_canon.proofs.lemmas.texts.Spellables.{canonical_is_spellable}
use Rattle.gf_canon.proofs.lemmas.texts.Fields.{game_text_is, node_lines}
use Rattle.gf_canon.proofs.lemmas.sameness.Unnamed.{unnamed_is_game, unnamed_is_spellable}

-- ---- games by their nodes

-- a game that a file can hold
pub record IsHeld (g : Game) : Type 0 where
  pub game : IsGame g
  pub spellable : IsSpellable g

held_by : (names : Names) (g : Game) → IsHeld g → IsHeld (game_by names g)
held_by Kept g held = held
held_by Aside g held = search (rules, unnamed_is_game, unnamed_is_spellable)

module _ (names : Names) (g h : Game) (left : IsHeld g) (right : IsHeld h) where
  -- what counts of headings and of nodes by first-use numbers
  abbrev AreAlike : Type 0
  AreAlike = AgreesWith names g (heading_in h) (file_nodes (canonical_game h))

  pub same_by_nodes : AreAlike ↔ SameGame (game_by names g) (game_by names h)
  same_by_nodes =
      let g' = held_by names g left in
      let h' = held_by names h right in
      let same = same_by_canonical (game_by names g) (game_by names h) g'.game h'.game in
      let texts = equal_game_texts (canonical_game (game_by names g))
      (canonical_game (game_by names h)) (canonical_is_game _ g'.game)
      (canonical_is_spellable _ g'.game g'.spellable) (canonical_is_game _ h'.game)
      (canonical_is_spellable _ h'.game h'.spellable) in
      grind (arith, game_text_is, node_lines, nodes_by)

pub same_by_walk : (names : Names) (g h : Game) → IsHeld g → IsHeld h
    → AgreesWith names g (heading_in h) (file_nodes (canonical_game h))
    ↔ SameBy names (extensive g) (extensive h)
same_by_walk names g h first second = grind (arith, same_by_nodes names g h first second)

-- ---- one node after another

-- P holds exactly when what is left of both lists is equal by f
module _ {P : Type 0} {A B : Type 0} (f : A → B) {us vs : List A}
    (left : P ↔ (map f us ≡ map f vs)) where
  pub walks_on : {us' vs' : List A} {u v : A} → us ≡ u ∷ us' → vs ≡ v ∷ vs' → f u ≡ f v
      → P ↔ (map f us' ≡ map f vs')
  walks_on {us'} {vs'} {u} {v} at_u at_v e = grind arith
