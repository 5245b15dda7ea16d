-- The canonical game: it is a game, the same as the first, and there is one for all games that are
-- the same.
use Rattle.gf_tree.proofs.Common.{first_use_numbers, first_use_number, outcome_numbers, Decides-eqb}
use Rattle.gf_tree.proofs.Common.{InformationSet, renumbered_set, IsRenumbering, used_outcomes, map}
use Rattle.gf_tree.proofs.Common.{Renumbering, player_keys, HasOutcome, first_uses, renumbered, sym}
use Rattle.gf_tree.proofs.Common.{Described, used_sets, SameGame, eqb-true, same_set, Carries, Bool}
use Rattle.gf_tree.proofs.Common.{sets_of, HasSet, IsGame, SetKey, filter, nat_eq, set_of, subst, ℕ}
use Rattle.gf_tree.proofs.Common.{Game, List, refl, ◌↔◌, ◌∙◌, ◌≡◌, ap}
use Rattle.gf_tree.specs.CanonicalGame.{canonical_game}
use Rattle.gf_tree.specs.CarriedParts.{CarriesParts}
use Rattle.gf_tree.proofs.lemmas.stores.RenumberedKept.{outcome_image, set_image}
use Rattle.gf_tree.proofs.lemmas.games.Members.{filter_of_map, map_same, map_twice}
use Rattle.gf_tree.proofs.lemmas.games.FirstUseNumbers.{number_kept}
use Rattle.gf_tree.proofs.lemmas.games.Carried.{carried_map}
use Rattle.gf_tree.proofs.lemmas.games.Renumbered.{first_use_is_renumbering, set_at_image}
use Rattle.gf_tree.proofs.lemmas.games.Renumbered.{outcome_at_image, renumbered_is_game, own_set}
use Rattle.gf_tree.proofs.lemmas.games.FirstUses.{of_filter}
use Rattle.gf_tree.proofs.lemmas.games.TreesOnce.{same_set_equality}
use Rattle.gf_tree.proofs.lemmas.games.Uses.{has, contains}
use Rattle.gf_tree.proofs.lemmas.games.Renumberings.{Agree, agreed_games, composed, composed_games}
use Rattle.gf_tree.proofs.lemmas.games.Renumberings.{sets_apart, outcomes_apart, used_outcomes_of}
use Rattle.gf_tree.proofs.lemmas.games.Renumberings.{used_sets_of}
use Rattle.gf_tree.proofs.lemmas.games.Same.{carried_sets, carried_outcomes, same_back, same_on}

-- ---- carried

pub carries_to_renumbered : (g : Game) (r : Renumbering) → IsRenumbering g r
    → Carries r g (renumbered r g)
carries_to_renumbered g r h = record { renumbering = h; image = refl }

pub carried_is_renumbered : (r : Renumbering) (g h : Game) → IsGame g → IsGame h → Carries r g h
    → renumbered r g ≡ h
carried_is_renumbered r g h game game' c = c.image

-- ---- part by part

renumbered_parts : (g : Game) (r : Renumbering) → IsGame g → IsRenumbering g r
    → CarriesParts r g (renumbered r g)
renumbered_parts g r game h = record {
  renumbering = h;
  title = refl;
  comment = refl;
  players = refl;
  tree = refl;
  sets = λ key i. sym (set_at_image g r game h key (has (used_sets g.tree) key i));
  outcomes =
      λ number i. sym (outcome_at_image g r game h number (has (used_outcomes g.tree) number i));
}

parts_are_renumbered : (r : Renumbering) (g h : Game) → IsGame g → IsGame h → CarriesParts r g h
    → renumbered r g ≡ h
parts_are_renumbered r g h game game' c =
    let used = ap used_sets (sym c.tree) ∙ used_sets_of r g.tree in
    let used' = ap used_outcomes (sym c.tree) ∙ used_outcomes_of r g.tree in
    let sets =
    carried_map same_set same_set_equality (renumbered_set r) (used_sets g.tree) g.sets h.sets
    (sets_apart g r c.renumbering) game.one_entry_each_set
    (game'.one_entry_each_set ∙ ap (first_uses same_set) used)
    (λ k i. c.sets k (contains (used_sets g.tree) k i)) in
    let outcomes =
    carried_map nat_eq Decides-eqb r.outcome (used_outcomes g.tree) g.outcomes h.outcomes
    (outcomes_apart g r c.renumbering) game.one_entry_each_outcome
    (game'.one_entry_each_outcome ∙ ap (first_uses nat_eq) used')
    (λ k i. c.outcomes k (contains (used_outcomes g.tree) k i)) in
    λ i. record {
      title = c.title i;
      comment = c.comment i;
      players = c.players i;
      tree = c.tree i;
      sets = sets i;
      outcomes = outcomes i;
    }

pub carried_by_parts : (r : Renumbering) (g h : Game) → IsGame g → IsGame h
    → Carries r g h ↔ CarriesParts r g h
carried_by_parts r g h game game' = (
  λ c. subst (CarriesParts r g) c.image (renumbered_parts g r game c.renumbering),
  λ c. record { renumbering = c.renumbering; image = parts_are_renumbered r g h game game' c },
)

-- ---- the same place in order of first use

pub set_numbers_carried : (r : Renumbering) (g h : Game) → IsGame g → IsGame h → Carries r g h
    → (player : ℕ) → map (λ key. key.number) (player_keys h player)
    ≡ map (λ key. r.set player key.number) (player_keys g player)
set_numbers_carried r g h game game' c player =
    ap (λ x. map (λ key. key.number) (player_keys x player)) (sym c.image)
    ∙ ap (λ ss. map (λ key. key.number) (map (λ s. s.key) ss))
    (filter_of_map mine mine (set_image r) g.sets (λ s i. refl))
    ∙ map_twice (λ (key : SetKey). key.number) (λ s. s.key) (map (set_image r) own)
    ∙ map_twice (λ s. s.key.number) (set_image r) own
    ∙ map_same (λ s. r.set s.key.player s.key.number) (λ s. r.set player s.key.number) own
    (λ s i. cc (eqb-true s.key.player player (of_filter mine g.sets s i).1))
    ∙ sym (map_twice (λ (key : SetKey). r.set player key.number) (λ s. s.key) own)
  where
    mine : Described SetKey InformationSet → Bool
    mine s = nat_eq s.key.player player

    own : List (Described SetKey InformationSet)
    own = filter mine g.sets

pub outcome_numbers_carried : (r : Renumbering) (g h : Game) → IsGame g → IsGame h → Carries r g h
    → outcome_numbers h ≡ map r.outcome (outcome_numbers g)
outcome_numbers_carried r g h game game' c =
    ap outcome_numbers (sym c.image)
    ∙ map_twice (λ o. o.key) (outcome_image r) g.outcomes
    ∙ sym (map_twice r.outcome (λ o. o.key) g.outcomes)

-- ---- first-use numbers

pub set_number_kept : (r : Renumbering) (g h : Game) → Carries r g h → (player number : ℕ)
    → HasSet g player number → (first_use_numbers h).set player (r.set player number)
    ≡ (first_use_numbers g).set player number
set_number_kept r g h c player number i =
    let key = set_of player number in
    let own = sets_of player (used_sets g.tree) in
    let mine = λ (k : SetKey). nat_eq k.player player in
    let carried : sets_of player (used_sets h.tree) ≡ map (renumbered_set r) own =
    ap (sets_of player) (carried_sets r g h c)
    ∙ filter_of_map mine mine (renumbered_set r) (used_sets g.tree) (λ k j. refl) in
    let kept = number_kept same_set same_set same_set_equality same_set_equality (renumbered_set r)
    own key (λ a b j k e. sets_apart g r c.renumbering a b (of_filter mine (used_sets g.tree) a j).0
    (of_filter mine (used_sets g.tree) b k).0 e) (own_set g key (has (used_sets g.tree) key i)) in
    cc

pub outcome_number_kept : (r : Renumbering) (g h : Game)
    → Carries r g h → (number : ℕ) → HasOutcome g number
    → (first_use_numbers h).outcome (r.outcome number) ≡ (first_use_numbers g).outcome number
outcome_number_kept r g h c number i =
    ap (λ ks. first_use_number nat_eq ks (r.outcome number)) (carried_outcomes r g h c)
    ∙ number_kept nat_eq nat_eq Decides-eqb Decides-eqb r.outcome (used_outcomes g.tree) number
    (outcomes_apart g r c.renumbering) (has (used_outcomes g.tree) number i)

-- ---- the canonical game

pub canonical_is_game : (g : Game) → IsGame g → IsGame (canonical_game g)
canonical_is_game g game =
    renumbered_is_game g (first_use_numbers g) game (first_use_is_renumbering g)

pub carries_to_canonical : (g : Game) → IsGame g
    → Carries (first_use_numbers g) g (canonical_game g)
carries_to_canonical g game =
    carries_to_renumbered g (first_use_numbers g) (first_use_is_renumbering g)

pub canonical_is_same : (g : Game) → IsGame g → SameGame g (canonical_game g)
canonical_is_same g game = (first_use_numbers g, carries_to_canonical g game)

pub same_canonical : (g h : Game) → IsGame g → IsGame h → SameGame g h
    → canonical_game g ≡ canonical_game h
same_canonical g h game game' (r, c) =
    cc (
      c.image,
      composed_games r (first_use_numbers h) g,
      agreed_games (composed r (first_use_numbers h)) (first_use_numbers g) g game agree,
    )
  where
    agree : Agree (composed r (first_use_numbers h)) (first_use_numbers g) g.tree
    agree = record {
      sets = λ key i. let e =
          set_number_kept r g h c key.player key.number (contains (used_sets g.tree) key i) in
          λ j. record { player = key.player; number = e j };
      outcomes =
          λ number i. outcome_number_kept r g h c number (contains (used_outcomes g.tree) number i);
    }

pub same_by_canonical : (g h : Game) → IsGame g → IsGame h
    → SameGame g h ↔ (canonical_game g ≡ canonical_game h)
same_by_canonical g h game game' = (
  same_canonical g h game game',
  λ e. same_on g (canonical_game h) h (subst (SameGame g) e (canonical_is_same g game))
      (same_back h (canonical_game h) game' (canonical_is_same h game')),
)

pub canonical_twice : (g : Game) → IsGame g → canonical_game (canonical_game g) ≡ canonical_game g
canonical_twice g game = sym
    (same_canonical g (canonical_game g) game (canonical_is_game g game) (canonical_is_same g game))
