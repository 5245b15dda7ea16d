-- A file tree of each game: each set and each outcome is described at its first use, and not again.
use Rattle.gf_canon.proofs.Common
use Common.{first_uses_distinct, same_set_equality, with_those_before, description_at, append_assoc}
use Common.{AreConsistent, used_outcomes, outcome_uses, cons_option, Decides-eqb, IsDescribed}
use Common.{all_of_each, flatten_map, entry_used, option_map, filter_map, first_uses, IsFirstUse, ℕ}
use Common.{outcome_at, keys_alone, IsEquality, node_after, file_nodes, append-nil, Described, Bool}
use Common.{Describes, used_sets, has_place, map_entry, map_twice, use_after, list_any, same_set}
use Common.{FileNode, FileTree, set_uses, contains, in_keys, flatten, has_map, Option, nat_eq, List}
use Common.{Listed, IsGame, set_at, arith, false, Fills, found, ◌++◌, Some, refl, Node}
use Common.{Game, ◌≡◌, suc, ◌+◌, ◌∷◌, map, sym, ◌∙◌, Use, Has, has, [], ap}
use Rattle.std.proofs.lemmas.List.Folds.{list_any-append}
use Rattle.std.proofs.lemmas.List.Elements.{filter_map-append}
use Rattle.gf_tree.specs.Tree.{map_tree}
use Rattle.gf_tree.specs.Learned.{Learns}
use Rattle.gf_tree.proofs.Offered.{flatten_once, one_tree, fills_one, learned_once, entry_at}
use Rattle.gf_tree.proofs.Offered.{game_learned_once}
use Rattle.gf_canon.specs.FirstDescribed.{DescribeFirstUses, IsFileOf}

-- ---- uses

module _ {K D : Type 0} (same : K → K → Bool) (at : K → Option D) where
  -- the uses of these keys after those
  abbrev pub uses_after : List K → List K → List (Use K D)
  uses_after before [] = []
  uses_after before (key ∷ keys) =
      use_after same at before key ∷ uses_after (before ++ key ∷ []) keys

  uses_keys : (before keys : List K) → map (λ u. u.key) (uses_after before keys) ≡ keys
  uses_keys before [] = refl
  uses_keys before (key ∷ keys) = cc (uses_keys (before ++ key ∷ []) keys)

  -- what a use says is what is at its key
  use_says : (before keys : List K) (key : K) (d : D)
      → Has (uses_after before keys) (record { key = key; description = Some d }) → at key ≡ Some d
  use_says before [] key d h = absurd h
  use_says before (k ∷ keys) key d h = grind (arith, use_says (before ++ k ∷ []) keys key d)

  -- a use is that of its key after the keys before it
  use_at_place : (before keys : List K) (front after : List (Use K D)) (u : Use K D)
      → uses_after before keys ≡ front ++ u ∷ after
      → u ≡ use_after same at (before ++ map (λ v. v.key) front) u.key
  use_at_place before [] [] after u e = absurd cc
  use_at_place before (k ∷ keys) (v ∷ front) after u e =
      grind (arith, use_at_place (before ++ k ∷ []) keys front after u, append_assoc)
  use_at_place before keys front after u e = grind (arith, append-nil)

  -- a described use is that of a new key
  new_where_described : (before : List K) (key : K) (d : D)
      → (use_after same at before key).description ≡ Some d → list_any (same key) before ≡ false
  new_where_described before key d e = grind arith

-- the first use of a key is that of a new key
module _ {K D : Type 0} (same : K → K → Bool) (equality : IsEquality same) where
  pub none_of_them : (front : List (Use K D)) (u : Use K D)
      → list_any (same u.key) (map (λ v. v.key) front) ≡ false → IsFirstUse front u
  none_of_them [] u h = tt
  none_of_them (v ∷ front) u h = grind (arith, none_of_them front u, equality)

  pub first_is_new : (front : List (Use K D)) (u : Use K D) → IsFirstUse front u
      → list_any (same u.key) (map (λ v. v.key) front) ≡ false
  first_is_new [] u h = refl
  first_is_new (v ∷ front) u h = grind (arith, first_is_new front u h.1, equality)

module _ {K D : Type 0} (same : K → K → Bool) (equality : IsEquality same) (at : K → Option D) where
  -- a new key is described
  new_described : (before keys : List K) (key : K) (d : D) → Has keys key → at key ≡ Some d
      → list_any (same key) before ≡ false
      → Has (uses_after same at before keys) (record { key = key; description = Some d })
  new_described before [] key d h e new = absurd h
  new_described before (k ∷ keys) key d h e new =
      grind (arith, list_any-append, new_described (before ++ k ∷ []) keys key d)

  first_is_described : (keys : List K) → ((k : K) → Has keys k → (d : D) × (at k ≡ Some d))
      → (front after : List (Use K D)) (u : Use K D)
      → uses_after same at [] keys ≡ front ++ u ∷ after → IsFirstUse front u → IsDescribed u
  first_is_described keys known front after u e first =
      let used = has_map (λ (v : Use K D). v.key) (uses_after same at [] keys) u in
      let place = use_at_place same at [] keys front after u e in
      let new = first_is_new same equality front u first in
      grind (arith, uses_keys same at [] keys, has_place)

  uses_consistent : (keys : List K) → ((k : K) → Has keys k → (d : D) × (at k ≡ Some d))
      → AreConsistent (uses_after same at [] keys)
  uses_consistent keys known = record {
    first_described = first_is_described keys known;
    described_alike = λ key c d h k.
        grind (arith, use_says same at [] keys key c, use_says same at [] keys key d, has);
  }

  first_uses_described : (keys : List K) → ((k : K) → Has keys k → (d : D) × (at k ≡ Some d))
      → DescribeFirstUses (uses_after same at [] keys)
  first_uses_described keys known front after u e = (
    λ told. none_of_them same equality front u (new_where_described same at
        (map (λ (v : Use K D). v.key) front) u.key told.0
        (cc (use_at_place same at [] keys front after u e))),
    first_is_described keys known front after u e,
  )

-- uses that describe what a map has, and that at first uses; the map is learned from them
module _ {K D : Type 0} (same : K → K → Bool) (equality : IsEquality same) (keys : List K)
    (es : List (Described K D)) (entries : map (λ e. e.key) es ≡ first_uses same keys) where
  known : (k : K) → Has keys k → (d : D) × (description_at same es k ≡ Some d)
  known k h =
      let f = found same equality es k (in_keys same equality keys es k entries h) in
      (f.description, f.is_at)

  told : (e : Described K D) → Has es e
      → Describes (uses_after same (description_at same es) [] keys) e.key e.description
  told e h = grind (arith, contains, new_described, entry_used, entry_at, first_uses_distinct)

  map_learned : (us : List (Use K D)) → us ≡ uses_after same (description_at same es) [] keys
      → Learns same [] us es × DescribeFirstUses us
  map_learned us is =
      let first = first_uses_described same equality (description_at same es) keys known in
      grind (arith, learned_once, uses_consistent, known, uses_keys, all_of_each, told)

-- ---- entries

-- the entries after those, one after another
abbrev pub entries_after : Game → List (Listed Node) → List (Listed Node) → List (Listed FileNode)
entries_after g before [] = []
entries_after g before (e ∷ es) =
    record { node = node_after g before e.node; children = e.children }
    ∷ entries_after g (before ++ e ∷ []) es

abbrev pub file_entries : Game → List (Listed FileNode)
file_entries g = entries_after g [] (flatten g.tree)

nodes_are : (g : Game) (before es : List (Listed Node))
    → map (λ p. node_after g (before ++ p.0) p.1.node) (with_those_before es)
    ≡ map (λ e. e.node) (entries_after g before es)
nodes_are g before [] = refl
nodes_are g before (e ∷ es) =
    grind (arith, map_twice, append-nil, append_assoc, nodes_are g (before ++ e ∷ []) es)

pub file_nodes_are : (g : Game) → file_nodes g ≡ map (λ e. e.node) (file_entries g)
file_nodes_are g = nodes_are g [] (flatten g.tree)

node_keys : (g : Game) (before : List (Listed Node)) (n : Node)
    → keys_alone (node_after g before n) ≡ n
node_keys g before n = grind arith

entries_keys : (g : Game) (before es : List (Listed Node))
    → map (map_entry keys_alone) (entries_after g before es) ≡ es
entries_keys g before [] = refl
entries_keys g before (e ∷ es) =
    λ i. record { node = node_keys g before e.node i; children = e.children }
    ∷ entries_keys g (before ++ e ∷ []) es i

entries_fill : (g : Game) (before es : List (Listed Node)) (due : ℕ) → Fills due es
    → Fills due (entries_after g before es)
entries_fill g before (e ∷ es) (suc due) h =
    entries_fill g (before ++ e ∷ []) es (e.children + due) h
entries_fill g before es due h = grind arith

module _ {K D : Type 0} (same : K → K → Bool) (at : K → Option D) (g : Game)
    (key : Node → Option K) (use_of : FileNode → Option (Use K D))
    (is : (before : List (Listed Node)) (n : Node) → use_of (node_after g before n)
    ≡ option_map (use_after same at (filter_map (λ e. key e.node) before)) (key n)) where
  uses_are : (before es : List (Listed Node))
      → filter_map (λ e. use_of e.node) (entries_after g before es)
      ≡ uses_after same at (filter_map (λ e. key e.node) before) (filter_map (λ e. key e.node) es)
  uses_are before [] = refl
  uses_are before (e ∷ es) =
      let keys = filter_map (λ (d : Listed Node). key d.node) in
      (λ i. cons_option (is before e.node i) (uses_are (before ++ e ∷ []) es i))
      ∙ ap (λ ks. cons_option (option_map (use_after same at (keys before)) (key e.node))
      (uses_after same at ks (keys es)))
      (filter_map-append (λ (d : Listed Node). key d.node) before (e ∷ []))
      ∙ (grind (arith, append-nil))

-- ---- the file tree

-- every game has a file tree that describes exactly the first uses, and its nodes are these
pub file_of_game : (g : Game) → IsGame g
    → (f : FileTree) × IsFileOf g f × (map (λ e. e.node) (flatten f.tree) ≡ file_nodes g)
file_of_game g game =
    let es = flatten g.tree in
    let tree = one_tree (file_entries g) (entries_fill g [] es 1 (fills_one g.tree)) in
    let f : FileTree =
    record { title = g.title; comment = g.comment; players = g.players; tree = tree.0 } in
    let sets = map_learned same_set same_set_equality (used_sets g.tree) g.sets
    game.one_entry_each_set (set_uses (flatten tree.0)) (ap set_uses tree.1
    ∙ uses_are same_set (set_at g) g (λ n. n.set) (λ n. n.set) (λ before n. refl) [] es) in
    let outcomes = map_learned nat_eq Decides-eqb (used_outcomes g.tree) g.outcomes
    game.one_entry_each_outcome (outcome_uses (flatten tree.0)) (ap outcome_uses tree.1
    ∙ uses_are nat_eq (outcome_at g) g (λ n. n.outcome) (λ n. n.outcome) (λ before n. refl) [] es)
    in
    let kept = flatten_once (map_tree keys_alone tree.0) g.tree
    (cc (flatten_map keys_alone tree.0, entries_keys g [] es)) in
    let means = (game_learned_once f g).0 (record {
      kept = record { title = refl; comment = refl; players = refl; tree = kept };
      sets = sets.0;
      outcomes = outcomes.0;
      each_set = game.each_set;
      each_outcome = game.each_outcome;
      children = game.children;
    }) in (
      f,
      record { consistent = means.0; game = means.1; sets = sets.1; outcomes = outcomes.1 },
      ap (map (λ e. e.node)) tree.1 ∙ sym (file_nodes_are g),
    )
