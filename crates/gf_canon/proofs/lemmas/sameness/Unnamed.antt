-- Without its names a game is still a game, and games that are the same are also the same aside
-- from names.
use Rattle.gf_canon.proofs.Common
use Common.{unnamed_outcome, SameAsideNames, canonical_text, description_at, map_tree_twice, IsGame}
use Common.{unnamed_table, used_outcomes, unnamed_game, unnamed_node, IsSpellable, ℕ}
use Common.{MatchOption, Renumbering, cons_option, flatten_map, unnamed_set, SpellsFile, all_images}
use Common.{all_weaker, filter_map, option_map, outcome_at, renumbered, Described, extensive, Table}
use Common.{map_entry, map_twice, strategic, used_sets, GameFile, SameFile, same_set, Carries, Bool}
use Common.{flatten, unnamed, Listed, Option, SetKey, length, nat_eq, set_at, arith, Game, List, []}
use Common.{Node, Some, refl, map, ◌↔◌, ◌∷◌, ◌≡◌}
use Rattle.gf_nfg.specs.SameTable.{SamePlay}
use Rattle.gf_nfg.proofs.Offered.{spelled_is_spellable as spelled_table}
use Rattle.gf_nfg.proofs.Offered.{text_reads_back as table_reads_back}
use Rattle.gf_tree.proofs.Offered.{spelled_is_spellable as spelled_game}
use Rattle.gf_canon.proofs.lemmas.texts.ReadsBack.{text_reads_back}
use Rattle.gf_canon.proofs.lemmas.files.Texts.{equal_canonical_texts, file_text}

-- ---- the same keys

module _ {K : Type 0} (key : Node → Option K)
    (still : (n : Node) → key (unnamed_node n) ≡ key n) where
  pub keys_still : (es : List (Listed Node))
      → filter_map (λ e. key e.node) (map (map_entry unnamed_node) es)
      ≡ filter_map (λ e. key e.node) es
  keys_still [] = refl
  keys_still (e ∷ es) = λ i. cons_option (still e.node i) (keys_still es i)

pub unnamed_sets : (g : Game) → used_sets (unnamed_game g).tree ≡ used_sets g.tree
unnamed_sets g =
    cc (flatten_map unnamed_node g.tree, keys_still (λ n. n.set) (λ n. refl) (flatten g.tree))

pub unnamed_outcomes : (g : Game) → used_outcomes (unnamed_game g).tree ≡ used_outcomes g.tree
unnamed_outcomes g =
    cc (flatten_map unnamed_node g.tree, keys_still (λ n. n.outcome) (λ n. refl) (flatten g.tree))

-- ---- descriptions

abbrev redescribed : {K D : Type 0} → (D → D) → List (Described K D) → List (Described K D)
redescribed f es = map (λ e. record { key = e.key; description = f e.description }) es

description_redescribed : {K D : Type 0} (same : K → K → Bool)
    (f : D → D) (es : List (Described K D)) (key : K)
    → description_at same (redescribed f es) key ≡ option_map f (description_at same es key)
description_redescribed same f [] key = refl
description_redescribed same f (e ∷ es) key = grind (arith, description_redescribed same f es key)

pub unnamed_set_at : (g : Game) (key : SetKey)
    → set_at (unnamed_game g) key ≡ option_map unnamed_set (set_at g key)
unnamed_set_at g key = description_redescribed same_set unnamed_set g.sets key

pub unnamed_outcome_at : (g : Game) (number : ℕ)
    → outcome_at (unnamed_game g) number ≡ option_map unnamed_outcome (outcome_at g number)
unnamed_outcome_at g number = description_redescribed nat_eq unnamed_outcome g.outcomes number

-- ---- a game still

children_by : (g : Game) (o : Option SetKey) (n : ℕ)
    → MatchOption o (n ≡ 0) (λ key. option_map (λ s. length s.actions) (set_at g key) ≡ Some n)
    → MatchOption o (n ≡ 0)
    (λ key. option_map (λ s. length s.actions) (set_at (unnamed_game g) key) ≡ Some n)
children_by g o n h = grind (arith, unnamed_set_at)

pub unnamed_is_game : (g : Game) → IsGame g → IsGame (unnamed_game g)
unnamed_is_game g game =
    let children = children_by g in
    grind (arith, map_twice, unnamed_sets, unnamed_outcomes, all_images, all_weaker, flatten_map)

pub unnamed_is_spellable : (g : Game) → IsSpellable g → IsSpellable (unnamed_game g)
unnamed_is_spellable g can = grind (arith, flatten_map, all_images, all_weaker)

-- ---- the same, and so aside from names

-- names and numbers can be changed in either order
pub unnamed_renumbered : (r : Renumbering) (g : Game)
    → renumbered r (unnamed_game g) ≡ unnamed_game (renumbered r g)
unnamed_renumbered r g = grind (arith, map_tree_twice, map_twice)

carries_aside : (r : Renumbering) (g h : Game) → Carries r g h
    → Carries r (unnamed_game g) (unnamed_game h)
carries_aside r g h c = grind (arith, unnamed_sets, unnamed_outcomes, map_tree_twice, map_twice)

pub same_is_so_aside : (x y : GameFile) → SameFile x y → SameAsideNames x y
same_is_so_aside (extensive g) (extensive h) s = (s.0, carries_aside s.0 g h s.1)
same_is_so_aside x y s = grind (arith, carries_aside)

-- ---- by their texts

unnamed_spelled : (bytes : List ℕ) (x : GameFile) → SpellsFile bytes x
    → SpellsFile (file_text (unnamed x)) (unnamed x)
unnamed_spelled bytes (extensive g) h =
    let s = spelled_game bytes g h in
    text_reads_back (unnamed_game g) (unnamed_is_game g s.0) (unnamed_is_spellable g s.1)
unnamed_spelled bytes (strategic t) h =
    let s = spelled_table bytes t h in
    table_reads_back (unnamed_table t) (assumption s.0)
    (assumption (s.1, refl, s.1.labels_spelled.1.1))

pub equal_texts_aside : (a b : List ℕ) (x y : GameFile) → SpellsFile a x → SpellsFile b y
    → (canonical_text (unnamed x) ≡ canonical_text (unnamed y)) ↔ SameAsideNames x y
equal_texts_aside a b x y h k = equal_canonical_texts (file_text (unnamed x))
    (file_text (unnamed y)) (unnamed x) (unnamed y) (unnamed_spelled a x h) (unnamed_spelled b y k)

-- ---- tables

pub tables_aside : (t u : Table) → SameAsideNames (strategic t) (strategic u) ↔ SamePlay t u
tables_aside t u = (λ same. assumption same.play, λ alike. assumption (alike, refl))

pub ruleset aside_names = (same_is_so_aside, equal_texts_aside, tables_aside)
