-- A tree that was told whole is the same as a game exactly when no difference was found, and
-- nothing is left of the game.
use Rattle.gf_canon.proofs.Common
use Common.{canonical_game, IsWithinLimit, SpellsWithin, IsSpellable, SpellsTable, file_nodes, Bool}
use Common.{SpellsGame, heading_in, append-nil, extensive, strategic, FileNode, GameFile, node_by}
use Common.{IsTrue, IsGame, SameBy, arith, false, subst, Table, Names, Aside, List}
use Common.{Game, Told, Kept, refl, ◌≡◌, map, ◌∙◌, ◌↔◌, ◌∷◌, [], ap, ℕ}
use Rattle.gf_nfg.specs.SameTable.{SameTable}
use Rattle.gf_nfg.specs.NamedBy.{named_by}
use Rattle.gf_tree.proofs.Offered.{spelled_is_spellable}
use Rattle.gf_canon.specs.inner.ComparedTrees.{AgreesWith, IsCompared}
use Rattle.gf_canon.specs.MeaningOf.{file_of_listed}
use Rattle.gf_canon.specs.declared.meaning.Listed.{Listed}
use Rattle.gf_canon.specs.declared.meaning.Listed.TheVariants.{Tree}
use Rattle.gf_canon.proofs.lemmas.sameness.WalkedNodes.{same_by_walk}

none_left : {A B : Type 0} (f : A → B) (left : List A) → map f left ≡ [] → left ≡ []
none_left f [] e = refl
none_left f (x ∷ xs) e = absurd cc

-- the game of a tree that was read
pub tree_is_held : (bytes : List ℕ) (m : Listed) (g : Game) → m ≡ Tree g
    → SpellsWithin bytes (file_of_listed m) → IsGame g × IsSpellable g
tree_is_held bytes m g is h = spelled_is_spellable bytes g (rw is at h).spelled

module _ (names : Names) (g h : Game) (bytes : List ℕ) (game : IsGame g) (spellable : IsSpellable g)
    (spelled : SpellsGame bytes h) where
  pub same_as_told : (same answer : Bool) (left : List FileNode) (told : List Told) (n : Names)
      (k : Game) → n ≡ names → k ≡ g → IsCompared n k same left (heading_in h) told
      → map (λ t. t.node) told ≡ file_nodes (canonical_game h)
      → IsTrue answer ↔ (IsTrue same × (left ≡ []))
      → IsTrue answer ↔ SameBy names (extensive g) (extensive h)
  same_as_told same answer left told n k of_names of_game found all is =
      let compared = subst (λ (j : Game). IsCompared names j same left (heading_in h) told) of_game
      (subst (λ (m : Names). IsCompared m k same left (heading_in h) told) of_names found) in
      let held = spelled_is_spellable bytes h spelled in
      let walk = same_by_walk names g h (record { game = game; spellable = spellable })
      (record { game = held.0; spellable = held.1 }) in
      let agrees = subst (λ (ns : List FileNode). AgreesWith names g (heading_in h) ns
      ↔ (IsTrue same × (map (node_by names) left ≡ []))) (append-nil _ ∙ all) (compared []) in (
        λ yes. walk.0 (agrees.1 ((is.0 yes).0, ap (map (node_by names)) (is.0 yes).1)),
        λ s. let no_more = agrees.0 (walk.1 s) in
            is.1 (no_more.0, none_left (node_by names) left no_more.1),
      )

-- a game is no table, and a table no game
pub no_table : (names : Names) (g : Game) (t : Table)
    → IsTrue false ↔ SameBy names (extensive g) (strategic t)
no_table names g t = grind arith

pub no_game : (names : Names) (t : Table) (g : Game)
    → IsTrue false ↔ SameBy names (strategic t) (extensive g)
no_game names t g = grind arith

-- a table that was told, compared with another
pub same_as_table : (names : Names) (t : Table) (bytes : List ℕ) (answer : Bool)
    → (u : Table) × SpellsTable bytes u × IsWithinLimit u
    × (IsTrue answer ↔ SameTable (named_by names t) (named_by names u))
    → (y : GameFile) × SpellsWithin bytes y × (IsTrue answer ↔ SameBy names (strategic t) y)
same_as_table Kept t bytes answer (u, spelled, within, same) =
    (strategic u, record { spelled = spelled; within = within }, same)
same_as_table Aside t bytes answer (u, spelled, within, same) =
    (strategic u, record { spelled = spelled; within = within }, same)
