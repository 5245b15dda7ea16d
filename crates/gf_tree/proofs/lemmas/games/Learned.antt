-- A game learned in the order of its file is the game of a consistent file tree.
use Rattle.gf_tree.proofs.Common
use Common.{HasChildrenAsDescribed, AllByRecursion, InformationSet, description_at, used_outcomes}
use Common.{AreConsistent, outcome_uses, IsConsistent, MatchOption, Decides-eqb, HasChildren, subst}
use Common.{option_map, keys_alone, first_uses, LearnsGame, used_sets, IsOutcome, Described, length}
use Common.{Describes, IsGameOf, same_set, FileTree, set_uses, flatten, Option, SetKey, nat_eq, ◌≡◌}
use Common.{IsSet, Bool, List, Some, None, Game, ◌↔◌, map, sym, ◌∙◌, Use, ap, ℕ}
use Rattle.gf_tree.proofs.lemmas.games.Uses.{Has, IsEquality, has_map, each, all_of_each, has}
use Rattle.gf_tree.proofs.lemmas.games.FirstUses.{found, is_used}
use Rattle.gf_tree.proofs.lemmas.games.TreesOnce.{same_set_equality}
use Rattle.gf_tree.proofs.lemmas.games.Learning.{learned_once}
use Rattle.gf_tree.proofs.lemmas.games.Consistent.{map_entry, flatten_map, used_sets_are}
use Rattle.gf_tree.proofs.lemmas.games.Consistent.{used_outcomes_are, is_game}

-- a description is the one that is found
pub told_found : {K D : Type 0} (same : K → K → Bool)
    → IsEquality same → (uses : List (Use K D)) (end : List (Described K D)) → AreConsistent uses
    → map (λ s. s.key) end ≡ first_uses same (map (λ u. u.key) uses)
    → AllByRecursion (λ s. Describes uses s.key s.description) end
    → (key : K) (d : D) → Describes uses key d
    → (description_at same end key ≡ Some d) × Has end (record { key = key; description = d })
told_found {K} {D} same equality uses end ok keys all key d h =
    let used = is_used same equality (map (λ (u : Use K D). u.key) uses) key
    (has_map (λ (u : Use K D). u.key) uses (record { key = key; description = Some d })
    (has uses (record { key = key; description = Some d }) h)) in
    let f = found same equality end key (subst (λ ks. Has ks key) (sym keys) used) in
    let alike : f.description ≡ d =
    ok.described_alike key f.description d (each (λ s. Describes uses s.key s.description)
    end (record { key = key; description = f.description }) all f.among) h in (
      f.is_at ∙ ap (λ (x : D). Some x) alike,
      subst (λ x. Has end (record { key = key; description = x })) alike f.among,
    )

children_learned : (uses : List (Use SetKey InformationSet)) (g : Game)
    → ((key : SetKey) (set : InformationSet) → Describes uses key set
    → description_at same_set g.sets key ≡ Some set)
    → (name : List ℕ) (o : Option (Use SetKey InformationSet)) (outcome : Option ℕ) (n : ℕ)
    → HasChildren g (record {
      node = record { name = name; set = option_map (λ u. u.key) o; outcome = outcome };
      children = n;
    }) → MatchOption o (n ≡ 0)
    (λ u. (set : InformationSet) → Describes uses u.key set → length set.actions ≡ n)
children_learned uses g at name None outcome n h = h
children_learned uses g at name (Some u) outcome n h = λ set told.
    let same : Some (length set.actions) ≡ Some n = cc (at u.key set told) in
    cc

learned_is : (f : FileTree) (g : Game) → LearnsGame f g → IsConsistent f × IsGameOf f g
learned_is f g h =
    let es = flatten f.tree in
    let sets = (learned_once same_set same_set_equality (set_uses es) g.sets).0 h.sets in
    let outcomes = (learned_once nat_eq Decides-eqb (outcome_uses es) g.outcomes).0 h.outcomes in
    let set_told =
    told_found same_set same_set_equality (set_uses es) g.sets sets.0 sets.1 sets.2 in
    let outcome_told =
    told_found nat_eq Decides-eqb (outcome_uses es) g.outcomes outcomes.0 outcomes.1 outcomes.2 in
    let players : length g.players ≡ length f.players = ap length (sym h.kept.players) in
    let entries : flatten g.tree ≡ map (map_entry keys_alone) es =
    ap flatten (sym h.kept.tree) ∙ flatten_map keys_alone f.tree in
    let children = subst (AllByRecursion (HasChildren g)) entries h.children in (
      record {
        sets = sets.0;
        outcomes = outcomes.0;
        each_set = λ key set told. subst (λ n. IsSet n key set) players
            (each (λ s. IsSet (length g.players) s.key s.description) g.sets
            (record { key = key; description = set }) h.each_set (set_told key set told).1);
        each_outcome = λ key outcome told. subst (λ n. IsOutcome n key outcome) players
            (each (λ o. IsOutcome (length g.players) o.key o.description) g.outcomes (record {
              key = key;
              description = outcome;
            }) h.each_outcome (outcome_told key outcome told).1);
        children = all_of_each (HasChildrenAsDescribed (set_uses es)) es (λ e m.
            children_learned (set_uses es) g (λ key set told. (set_told key set told).0) e.node.name
            e.node.set (option_map (λ u. u.key) e.node.outcome) e.children
            (each (HasChildren g) (map (map_entry keys_alone) es) (map_entry keys_alone e) children
            (has_map (map_entry keys_alone) es e m)));
      },
      record {
        kept = h.kept;
        set_keys = cc (sets.1, used_sets_are f.tree, h.kept.tree);
        outcome_keys = cc (outcomes.1, used_outcomes_are f.tree, h.kept.tree);
        sets = sets.2;
        outcomes = outcomes.2;
      },
    )

is_learned : (f : FileTree) (g : Game) → IsConsistent f × IsGameOf f g → LearnsGame f g
is_learned f g h =
    let es = flatten f.tree in
    let ok = h.0 in
    let of = h.1 in
    let game = is_game f g ok of in
    let set_keys = of.set_keys ∙ ap (λ t. first_uses same_set (used_sets t)) (sym of.kept.tree)
    ∙ ap (first_uses same_set) (used_sets_are f.tree) in
    let outcome_keys = of.outcome_keys
    ∙ ap (λ t. first_uses nat_eq (used_outcomes t)) (sym of.kept.tree)
    ∙ ap (first_uses nat_eq) (used_outcomes_are f.tree) in
    record {
      kept = of.kept;
      sets = (learned_once same_set same_set_equality (set_uses es) g.sets).1
          (ok.sets, set_keys, of.sets);
      outcomes = (learned_once nat_eq Decides-eqb (outcome_uses es) g.outcomes).1
          (ok.outcomes, outcome_keys, of.outcomes);
      each_set = game.each_set;
      each_outcome = game.each_outcome;
      children = game.children;
    }

pub game_learned_once : (f : FileTree) (g : Game) → LearnsGame f g ↔ (IsConsistent f × IsGameOf f g)
game_learned_once f g = (learned_is f g, is_learned f g)
