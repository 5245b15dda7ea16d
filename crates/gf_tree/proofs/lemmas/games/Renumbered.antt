-- A game by new numbers is a game; first-use numbers are new numbers.
use Rattle.gf_tree.proofs.Common
use Common.{first_use_numbers, renumbered_node, AllByRecursion, InformationSet, renumbered_set, ◌≡◌}
use Common.{used_outcomes, IsRenumbering, Decides-eqb, HasChildren, Renumbering, MatchOption, subst}
use Common.{renumbered, first_uses, option_map, outcome_at, IsOutcome, used_sets, Described, length}
use Common.{same_set, flatten, Outcome, sets_of, Option, Listed, SetKey, set_of, IsGame, ap}
use Common.{set_at, HasSet, nat_eq, arith, IsSet, Some, Node, Game, map, sym, ◌∙◌, ℕ}
use Rattle.gf_tree.proofs.lemmas.games.FirstUseNumbers.{numbers_apart}
use Rattle.gf_tree.proofs.lemmas.games.Lookups.{at_images}
use Rattle.gf_tree.proofs.lemmas.games.MappedTrees.{held}
use Rattle.gf_tree.proofs.lemmas.games.FirstUses.{in_filter}
use Rattle.gf_tree.proofs.lemmas.games.Carried.{image_keys, image_lookup, entry_used}
use Rattle.gf_tree.proofs.lemmas.games.Renumberings.{used_sets_of, used_outcomes_of, sets_apart}
use Rattle.gf_tree.proofs.lemmas.games.Renumberings.{outcomes_apart}
use Rattle.gf_tree.proofs.lemmas.games.TreesOnce.{same_set_equality}
use Rattle.gf_tree.proofs.lemmas.games.Consistent.{map_entry, flatten_map}
use Rattle.gf_tree.proofs.lemmas.games.Uses.{Has, has, contains, mapped_from, each, all_of_each}

-- ---- a game by new numbers

pub set_at_image : (g : Game) (r : Renumbering) → IsGame g → IsRenumbering g r → (key : SetKey)
    → Has (used_sets g.tree) key → set_at (renumbered r g) (renumbered_set r key) ≡ set_at g key
set_at_image g r game h key i = image_lookup same_set same_set_equality (renumbered_set r)
    (used_sets g.tree) g.sets key (sets_apart g r h) game.one_entry_each_set i

pub outcome_at_image : (g : Game) (r : Renumbering)
    → IsGame g → IsRenumbering g r → (number : ℕ) → Has (used_outcomes g.tree) number
    → outcome_at (renumbered r g) (r.outcome number) ≡ outcome_at g number
outcome_at_image g r game h number i = image_lookup nat_eq Decides-eqb r.outcome
    (used_outcomes g.tree) g.outcomes number (outcomes_apart g r h) game.one_entry_each_outcome i

children_kept : (g h : Game) (f : SetKey → SetKey) (o : Option SetKey) (n : ℕ)
    → ((key : SetKey) → o ≡ Some key → set_at h (f key) ≡ set_at g key)
    → MatchOption o (n ≡ 0) (λ key. option_map (λ set. length set.actions) (set_at g key) ≡ Some n)
    → MatchOption (option_map f o) (n ≡ 0)
    (λ key. option_map (λ set. length set.actions) (set_at h key) ≡ Some n)
children_kept g h f o n same c = grind arith

pub renumbered_is_game : (g : Game) (r : Renumbering) → IsGame g → IsRenumbering g r
    → IsGame (renumbered r g)
renumbered_is_game g r game h = record {
  one_entry_each_set = image_keys same_set same_set_equality (renumbered_set r)
      (used_sets g.tree) g.sets (sets_apart g r h) game.one_entry_each_set
      ∙ ap (first_uses same_set) (sym (used_sets_of r g.tree));
  one_entry_each_outcome = image_keys nat_eq Decides-eqb r.outcome (used_outcomes g.tree)
      g.outcomes (outcomes_apart g r h) game.one_entry_each_outcome
      ∙ ap (first_uses nat_eq) (sym (used_outcomes_of r g.tree));
  each_set = all_of_each (λ s. IsSet (length g.players) s.key s.description)
      (at_images (renumbered_set r) g.sets) set;
  each_outcome = all_of_each (λ o. IsOutcome (length g.players) o.key o.description)
      (at_images r.outcome g.outcomes) outcome;
  children = subst (AllByRecursion (HasChildren (renumbered r g)))
      (sym (flatten_map (renumbered_node r) g.tree)) (all_of_each (HasChildren (renumbered r g))
      (map (map_entry (renumbered_node r)) (flatten g.tree)) children);
}
  where
    set : (s : Described SetKey InformationSet) → Has (at_images (renumbered_set r) g.sets) s
        → IsSet (length g.players) s.key s.description
    set s i =
        let k = mapped_from (λ (t : Described SetKey InformationSet). record {
          key = renumbered_set r t.key;
          description = t.description;
        }) g.sets s i in
        let was =
        each (λ (t : Described SetKey InformationSet). IsSet (length g.players) t.key t.description)
        g.sets k.0 game.each_set k.1 in
        let used = entry_used same_set (used_sets g.tree) g.sets k.0 game.one_entry_each_set k.1 in
        rw (← k.2) (record {
          player = was.player;
          number = grind (arith, contains);
          some_action = was.some_action;
          actions = was.actions;
        })

    outcome : (o : Described ℕ Outcome) → Has (at_images r.outcome g.outcomes) o
        → IsOutcome (length g.players) o.key o.description
    outcome o i =
        let k = mapped_from (λ (t : Described ℕ Outcome). record {
          key = r.outcome t.key;
          description = t.description;
        }) g.outcomes o i in
        let was =
        each (λ (t : Described ℕ Outcome). IsOutcome (length g.players) t.key t.description)
        g.outcomes k.0 game.each_outcome k.1 in
        let used =
        entry_used nat_eq (used_outcomes g.tree) g.outcomes k.0 game.one_entry_each_outcome k.1 in
        rw (← k.2) (record {
          number_from_one = grind (arith, contains);
          one_payoff_each = was.one_payoff_each;
        })

    children : (e : Listed Node) → Has (map (map_entry (renumbered_node r)) (flatten g.tree)) e
        → HasChildren (renumbered r g) e
    children e i =
        let k = mapped_from (map_entry (renumbered_node r)) (flatten g.tree) e i in
        subst
        (HasChildren (renumbered r g))
        k.2
        (children_kept g (renumbered r g) (renumbered_set r) k.0.node.set k.0.children
        (λ key q. set_at_image g r game h key (held (λ n. n.set) (flatten g.tree) k.0 key k.1 q))
        (each (HasChildren g) (flatten g.tree) k.0 game.children k.1))

-- ---- first-use numbers

pub own_set : (g : Game) (key : SetKey) → Has (used_sets g.tree) key
    → Has (sets_of key.player (used_sets g.tree)) key
own_set g key i = grind (arith, in_filter)

pub first_use_is_renumbering : (g : Game) → IsRenumbering g (first_use_numbers g)
first_use_is_renumbering g = record {
  positive_sets = λ player number h. omega arith;
  positive_outcomes = λ number h. omega arith;
  sets_apart = λ player a b h k e.
      ap (λ (key : SetKey). key.number)
      (numbers_apart same_set same_set_equality (sets_of player (used_sets g.tree))
      (set_of player a) (set_of player b) (own player a h) (own player b k) e);
  outcomes_apart = λ a b h k e. numbers_apart nat_eq Decides-eqb (used_outcomes g.tree) a b
      (has (used_outcomes g.tree) a h) (has (used_outcomes g.tree) b k) e;
}
  where
    own : (player number : ℕ) → HasSet g player number
        → Has (sets_of player (used_sets g.tree)) (set_of player number)
    own player number h =
        own_set g (set_of player number) (has (used_sets g.tree) (set_of player number) h)
