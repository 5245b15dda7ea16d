-- Trees by their new numbers.
use Rattle.gf_tree.proofs.Common.{◌≡◌, ℕ, ◌<◌, map, Option, Some, refl, ap, subst, ◌∙◌, arith}
use Rattle.gf_tree.proofs.Common.{filter_map, Decides-eqb, Tree, map_tree, Listed, flatten, SetKey}
use Rattle.gf_tree.proofs.Common.{same_set, set_of, Node, Game, IsGame, used_sets, used_outcomes}
use Rattle.gf_tree.proofs.Common.{Renumbering, IsRenumbering, renumbered_set, renumbered_node}
use Rattle.gf_tree.proofs.Common.{renumbered, nat_eq, option_map}
use Rattle.std.proofs.lemmas.Iterator.Adapters.{option_map_id}
use Rattle.gf_tree.proofs.lemmas.games.FirstUseNumbers.{AreApart}
use Rattle.gf_tree.proofs.lemmas.games.Consistent.{flatten_map}
use Rattle.gf_tree.proofs.lemmas.games.Carried.{of_keys, in_keys, at_images_twice, at_images_same}
use Rattle.gf_tree.proofs.lemmas.games.Carried.{at_images_itself}
use Rattle.gf_tree.proofs.lemmas.games.MappedTrees.{map_tree_same, map_tree_twice, map_tree_itself}
use Rattle.gf_tree.proofs.lemmas.games.MappedTrees.{held, held_map}
use Rattle.gf_tree.proofs.lemmas.games.TreesOnce.{same_set_equality}
use Rattle.gf_tree.proofs.lemmas.games.Uses.{Has, has, contains, mapped_from, each}

-- ---- uses

pub used_sets_of : (r : Renumbering) (t : Tree Node)
    → used_sets (map_tree (renumbered_node r) t) ≡ map (renumbered_set r) (used_sets t)
used_sets_of r t =
    ap (filter_map (λ (e : Listed Node). e.node.set)) (flatten_map (renumbered_node r) t)
    ∙ held_map (renumbered_node r) (renumbered_set r) (λ n. n.set) (λ n. n.set) (λ n. refl)
    (flatten t)

pub used_outcomes_of : (r : Renumbering) (t : Tree Node)
    → used_outcomes (map_tree (renumbered_node r) t) ≡ map r.outcome (used_outcomes t)
used_outcomes_of r t =
    ap (filter_map (λ (e : Listed Node). e.node.outcome)) (flatten_map (renumbered_node r) t)
    ∙ held_map (renumbered_node r) r.outcome (λ n. n.outcome) (λ n. n.outcome) (λ n. refl)
    (flatten t)

-- ---- agreement at what is used

-- these two give the same new numbers to the sets and outcomes of the tree
pub record Agree (r s : Renumbering) (t : Tree Node) : Type 0 where
  pub sets : (key : SetKey) → Has (used_sets t) key → renumbered_set r key ≡ renumbered_set s key
  pub outcomes : (number : ℕ) → Has (used_outcomes t) number → r.outcome number ≡ s.outcome number

option_same : {X Y : Type 0} (f g : X → Y) (o : Option X) → ((x : X) → o ≡ Some x → f x ≡ g x)
    → option_map f o ≡ option_map g o
option_same f g o h = grind arith

pub agreed_trees : (r s : Renumbering) (t : Tree Node) → Agree r s t
    → map_tree (renumbered_node r) t ≡ map_tree (renumbered_node s) t
agreed_trees r s t h = map_tree_same (renumbered_node r) (renumbered_node s) t node
  where
    node : (e : Listed Node) → Has (flatten t) e
        → renumbered_node r e.node ≡ renumbered_node s e.node
    node e i =
        let set = option_same (renumbered_set r) (renumbered_set s) e.node.set
        (λ k q. h.sets k (held (λ n. n.set) (flatten t) e k i q)) in
        let outcome = option_same r.outcome s.outcome e.node.outcome
        (λ k q. h.outcomes k (held (λ n. n.outcome) (flatten t) e k i q)) in
        λ j. record { name = e.node.name; set = set j; outcome = outcome j }

pub agreed_games : (r s : Renumbering) (g : Game) → IsGame g → Agree r s g.tree
    → renumbered r g ≡ renumbered s g
agreed_games r s g game h =
    let sets = at_images_same (renumbered_set r) (renumbered_set s) g.sets
    (λ k i. h.sets k (of_keys same_set (used_sets g.tree) g.sets k game.one_entry_each_set i)) in
    let outcomes = at_images_same r.outcome s.outcome g.outcomes (λ k i. h.outcomes k
    (of_keys nat_eq (used_outcomes g.tree) g.outcomes k game.one_entry_each_outcome i)) in
    λ i. record {
      title = g.title;
      comment = g.comment;
      players = g.players;
      tree = agreed_trees r s g.tree h i;
      sets = sets i;
      outcomes = outcomes i;
    }

-- ---- identity and composition

abbrev pub identity : Renumbering
identity = record { set = λ player number. number; outcome = λ number. number }

itself_tree : (t : Tree Node) → map_tree (renumbered_node identity) t ≡ t
itself_tree t = map_tree_same (renumbered_node identity) (λ n. n) t (λ e i j. record {
  name = e.node.name;
  set = option_map_id e.node.set j;
  outcome = option_map_id e.node.outcome j;
}) ∙ map_tree_itself t

pub itself : (g : Game) → renumbered identity g ≡ g
itself g = λ i. record {
  title = g.title;
  comment = g.comment;
  players = g.players;
  tree = itself_tree g.tree i;
  sets = at_images_itself g.sets i;
  outcomes = at_images_itself g.outcomes i;
}

-- first r, then s
abbrev pub composed : Renumbering → Renumbering → Renumbering
composed r s = record {
  set = λ player number. s.set player (r.set player number);
  outcome = λ number. s.outcome (r.outcome number);
}

pub composed_trees : (r s : Renumbering) (t : Tree Node)
    → map_tree (renumbered_node s) (map_tree (renumbered_node r) t)
    ≡ map_tree (renumbered_node (composed r s)) t
composed_trees r s t = map_tree_twice (renumbered_node s) (renumbered_node r) t ∙ map_tree_same
    (λ n. renumbered_node s (renumbered_node r n)) (renumbered_node (composed r s)) t node
  where
    node : (e : Listed Node) → Has (flatten t) e
        → renumbered_node s (renumbered_node r e.node) ≡ renumbered_node (composed r s) e.node
    node e i = grind arith

pub composed_games : (r s : Renumbering) (g : Game)
    → renumbered s (renumbered r g) ≡ renumbered (composed r s) g
composed_games r s g = λ i. record {
  title = g.title;
  comment = g.comment;
  players = g.players;
  tree = composed_trees r s g.tree i;
  sets = at_images_twice (renumbered_set r) (renumbered_set s) g.sets i;
  outcomes = at_images_twice r.outcome s.outcome g.outcomes i;
}

-- ---- what makes a renumbering

pub sets_apart : (g : Game) (r : Renumbering) → IsRenumbering g r
    → AreApart (renumbered_set r) (used_sets g.tree)
sets_apart g r h a b i j e = grind (arith, contains)

pub outcomes_apart : (g : Game) (r : Renumbering) → IsRenumbering g r
    → AreApart r.outcome (used_outcomes g.tree)
outcomes_apart g r h a b i j e = grind (arith, contains)

pub is_renumbering : (g : Game) (r : Renumbering)
    → ((key : SetKey) → Has (used_sets g.tree) key → 0 < r.set key.player key.number)
    → ((number : ℕ) → Has (used_outcomes g.tree) number → 0 < r.outcome number)
    → AreApart (renumbered_set r) (used_sets g.tree) → AreApart r.outcome (used_outcomes g.tree)
    → IsRenumbering g r
is_renumbering g r positive positive' apart apart' = record {
  positive_sets = λ player number h.
      positive (set_of player number) (has (used_sets g.tree) (set_of player number) h);
  positive_outcomes = λ number h. positive' number (has (used_outcomes g.tree) number h);
  sets_apart = λ player a b h k e.
      ap (λ (key : SetKey). key.number)
      (apart
      (set_of player a)
      (set_of player b)
      (has (used_sets g.tree) (set_of player a) h)
      (has (used_sets g.tree) (set_of player b) k)
      (λ i. set_of player (e i)));
  outcomes_apart =
      λ a b h k e. apart' a b (has (used_outcomes g.tree) a h) (has (used_outcomes g.tree) b k) e;
}

-- ---- the numbers of a game are positive

pub set_number_positive : (g : Game) → IsGame g → (key : SetKey) → Has (used_sets g.tree) key
    → 0 < key.number
set_number_positive g game key i =
    let k = mapped_from (λ s. s.key) g.sets key
    (in_keys same_set same_set_equality (used_sets g.tree) g.sets key game.one_entry_each_set i) in
    subst (λ (q : SetKey). 0 < q.number) k.2 (each _ g.sets k.0 game.each_set k.1).number

pub outcome_number_positive : (g : Game)
    → IsGame g → (number : ℕ) → Has (used_outcomes g.tree) number → 0 < number
outcome_number_positive g game number i =
    let k = mapped_from (λ o. o.key) g.outcomes number (in_keys nat_eq Decides-eqb
    (used_outcomes g.tree) g.outcomes number game.one_entry_each_outcome i) in
    subst (λ q. 0 < q) k.2 (each _ g.outcomes k.0 game.each_outcome k.1).number_from_one
