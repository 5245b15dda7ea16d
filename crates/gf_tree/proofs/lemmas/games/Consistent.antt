-- The game of a consistent file tree: there is one, and it is a game.
use Rattle.gf_tree.proofs.Common
use Common.{HasChildrenAsDescribed, AllByRecursion, InformationSet, AreConsistent, used_outcomes, ℕ}
use Common.{outcome_uses, IsConsistent, MatchOption, Decides-eqb, flatten_all, flatten}
use Common.{HasChildren, option_map, map-append, filter_map, first_uses, keys_alone, map_trees, ◌≡◌}
use Common.{IsOutcome, Describes, used_sets, map_tree, same_set, IsGameOf, FileNode, FileTree, ◌++◌}
use Common.{set_uses, length, Option, branch, Listed, SetKey, IsGame, set_at, nat_eq, subst, arith}
use Common.{Trees, count, IsSet, List, Some, None, Bool, refl, Tree, none, more, Game, suc, ◌∷◌, []}
use Common.{map, sym, ◌∙◌, inl, inr, Use, ap}
use Rattle.gf_tree.proofs.lemmas.games.Uses.{Has, IsEquality, has_map, mapped_from, each}
use Rattle.gf_tree.proofs.lemmas.games.Uses.{all_of_each, has_later, described}
use Rattle.gf_tree.proofs.lemmas.games.FirstUses.{is_used, was_used, describe_all, found}
use Rattle.gf_tree.proofs.lemmas.games.TreesOnce.{one_game, same_set_equality}

-- ---- mapping keeps the shape

abbrev pub map_entry : {N M : Type 0} → (N → M) → Listed N → Listed M
map_entry f e = record { node = f e.node; children = e.children }

count_map : {N M : Type 0} (f : N → M) (ts : Trees N) → count (map_trees f ts) ≡ count ts
count_map f none = refl
count_map f (more t ts) = ap suc (count_map f ts)

mutual
  pub flatten_map : {N M : Type 0} (f : N → M) (t : Tree N)
      → flatten (map_tree f t) ≡ map (map_entry f) (flatten t)
  flatten_map f (branch n ts) =
      λ i. record { node = f n; children = count_map f ts i } ∷ flatten_all_map f ts i

  flatten_all_map : {N M : Type 0} (f : N → M) (ts : Trees N)
      → flatten_all (map_trees f ts) ≡ map (map_entry f) (flatten_all ts)
  flatten_all_map f none = refl
  flatten_all_map f (more t ts) = (λ i. flatten_map f t i ++ flatten_all_map f ts i)
      ∙ sym (map-append (map_entry f) (flatten t) (flatten_all ts))

-- ---- the keys of the game are those of the uses

set_keys_of : (es : List (Listed FileNode))
    → filter_map (λ e. e.node.set) (map (map_entry keys_alone) es) ≡ map (λ u. u.key) (set_uses es)
set_keys_of [] = refl
set_keys_of (e ∷ es) = grind (arith, set_keys_of es)

outcome_keys_of : (es : List (Listed FileNode))
    → filter_map (λ e. e.node.outcome) (map (map_entry keys_alone) es)
    ≡ map (λ u. u.key) (outcome_uses es)
outcome_keys_of [] = refl
outcome_keys_of (e ∷ es) = grind (arith, outcome_keys_of es)

pub used_sets_are : (t : Tree FileNode)
    → used_sets (map_tree keys_alone t) ≡ map (λ u. u.key) (set_uses (flatten t))
used_sets_are t = cc (flatten_map keys_alone t, set_keys_of (flatten t))

pub used_outcomes_are : (t : Tree FileNode)
    → used_outcomes (map_tree keys_alone t) ≡ map (λ u. u.key) (outcome_uses (flatten t))
used_outcomes_are t = cc (flatten_map keys_alone t, outcome_keys_of (flatten t))

-- ---- there is a game

known : {K D : Type 0} (same : K → K → Bool) → IsEquality same → (uses : List (Use K D))
    → AreConsistent uses → (k : K) → Has (first_uses same (map (λ u. u.key) uses)) k
    → (d : D) × Describes uses k d
known same equality uses ok k h =
    let u = mapped_from (λ u. u.key) uses k (was_used same (map (λ u. u.key) uses) k h) in
    let d = described same equality uses ok u.0 u.1 in
    (d.0, subst (λ j. Describes uses j d.0) u.2 d.1)

pub some_game : (f : FileTree) → IsConsistent f → (g : Game) × IsGameOf f g
some_game f ok =
    let es = flatten f.tree in
    let sets = describe_all (set_uses es) (first_uses same_set (map (λ u. u.key) (set_uses es)))
    (known same_set same_set_equality (set_uses es) ok.sets) in
    let outcomes =
    describe_all (outcome_uses es) (first_uses nat_eq (map (λ u. u.key) (outcome_uses es)))
    (known nat_eq Decides-eqb (outcome_uses es) ok.outcomes) in (
      record {
        title = f.title;
        comment = f.comment;
        players = f.players;
        tree = map_tree keys_alone f.tree;
        sets = sets.0;
        outcomes = outcomes.0;
      },
      record {
        kept = record { title = refl; comment = refl; players = refl; tree = refl };
        set_keys = sets.1 ∙ ap (first_uses same_set) (sym (used_sets_are f.tree));
        outcome_keys = outcomes.1 ∙ ap (first_uses nat_eq) (sym (used_outcomes_are f.tree));
        sets = sets.2;
        outcomes = outcomes.2;
      },
    )

pub one_game_each : (f : FileTree) → IsConsistent f
    → (g : Game) × IsGameOf f g × ((h : Game) → IsGameOf f h → h ≡ g)
one_game_each f ok = let g = some_game f ok in (g.0, g.1, λ h of. one_game f h g.0 ok of g.1)

-- ---- and it is one

-- a set that a file uses is found among those of its game
set_found : (f : FileTree) (g : Game) → IsGameOf f g → (u : Use SetKey InformationSet)
    → Has (set_uses (flatten f.tree)) u → (d : InformationSet) × (set_at g u.key ≡ Some d)
    × Describes (set_uses (flatten f.tree)) u.key d
set_found f g of u h =
    let es = flatten f.tree in
    let keys : map (λ s. s.key) g.sets ≡ first_uses same_set (map (λ u. u.key) (set_uses es)) =
    cc (of.set_keys, of.kept.tree, used_sets_are f.tree) in
    let key = is_used same_set same_set_equality (map (λ u. u.key) (set_uses es)) u.key
    (has_map (λ u. u.key) (set_uses es) u h) in
    let d =
    found same_set same_set_equality g.sets u.key (subst (λ ks. Has ks u.key) (sym keys) key) in (
      d.description,
      d.is_at,
      each (λ s. Describes (set_uses es) s.key s.description) g.sets
          (record { key = u.key; description = d.description }) of.sets d.among,
    )

children_of : (f : FileTree) (g : Game) → IsGameOf f g
    → (name : List ℕ) (o : Option (Use SetKey InformationSet)) (outcome : Option ℕ) (n : ℕ)
    → ((u : Use SetKey InformationSet) → o ≡ Some u → Has (set_uses (flatten f.tree)) u)
    → MatchOption o (n ≡ 0) (λ u. (set : InformationSet)
    → Describes (set_uses (flatten f.tree)) u.key set → length set.actions ≡ n)
    → HasChildren g (record {
      node = record { name = name; set = option_map (λ u. u.key) o; outcome = outcome };
      children = n;
    })
children_of f g of name None outcome n among h = h
children_of f g of name (Some u) outcome n among h =
    grind (arith, set_found f g of u (among u refl))

-- an entry's set is among the uses
pub use_among : (es : List (Listed FileNode)) (e : Listed FileNode) (u : Use SetKey InformationSet)
    → Has es e → e.node.set ≡ Some u → Has (set_uses es) u
use_among [] e u h q = absurd h
use_among (x ∷ xs) e u (inl p) q = (grind arith)
use_among (x ∷ xs) e u (inr m) q = has_later x.node.set (set_uses xs) u (use_among xs e u m q)

pub is_game : (f : FileTree) (g : Game) → IsConsistent f → IsGameOf f g → IsGame g
is_game f g ok of =
    let es = flatten f.tree in
    let entries : map (map_entry keys_alone) es ≡ flatten g.tree =
    sym (flatten_map keys_alone f.tree) ∙ ap flatten of.kept.tree in
    let children : AllByRecursion (HasChildren g) (map (map_entry keys_alone) es) =
    all_of_each (HasChildren g) (map (map_entry keys_alone) es) (λ y m.
    let x = mapped_from (map_entry keys_alone) es y m in
    let among : (u : Use SetKey InformationSet) → x.0.node.set ≡ Some u → Has (set_uses es) u =
    λ u q. use_among es x.0 u x.1 q in
    subst (HasChildren g) x.2
    (children_of f g of x.0.node.name x.0.node.set (option_map (λ u. u.key) x.0.node.outcome)
    x.0.children among (each (HasChildrenAsDescribed (set_uses es)) es x.0 ok.children x.1))) in
    let players : length f.players ≡ length g.players = ap length of.kept.players in
    record {
      one_entry_each_set = of.set_keys;
      one_entry_each_outcome = of.outcome_keys;
      each_set = all_of_each (λ s. IsSet (length g.players) s.key s.description) g.sets (λ s m.
          subst (λ n. IsSet n s.key s.description) players (ok.each_set s.key s.description
          (each (λ s. Describes (set_uses es) s.key s.description) g.sets s of.sets m)));
      each_outcome =
          all_of_each (λ o. IsOutcome (length g.players) o.key o.description) g.outcomes (λ o m.
          subst (λ n. IsOutcome n o.key o.description) players (ok.each_outcome o.key o.description
          (each (λ o. Describes (outcome_uses es) o.key o.description) g.outcomes o of.outcomes
          m)));
      children = subst (AllByRecursion (HasChildren g)) entries children;
    }

-- ---- the keys in its tree

pub sets_in_order : (f : FileTree) (g : Game) → IsGameOf f g
    → used_sets g.tree ≡ map (λ u. u.key) (set_uses (flatten f.tree))
sets_in_order f g of = ap used_sets (sym of.kept.tree) ∙ used_sets_are f.tree

pub outcomes_in_order : (f : FileTree) (g : Game) → IsGameOf f g
    → used_outcomes g.tree ≡ map (λ u. u.key) (outcome_uses (flatten f.tree))
outcomes_in_order f g of = ap used_outcomes (sym of.kept.tree) ∙ used_outcomes_are f.tree

pub ruleset keys_in_order = (sets_in_order, outcomes_in_order)
