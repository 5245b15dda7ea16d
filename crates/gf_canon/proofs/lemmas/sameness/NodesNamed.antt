-- The nodes of a game without its names are its nodes without theirs.
use Rattle.gf_canon.proofs.Common
use Common.{first_use_numbers, unnamed_outcome, canonical_game, unnamed_game, unnamed_node, flatten}
use Common.{flatten_map, unnamed_set, file_nodes, filter_map, map-append}
use Common.{node_after, option_map, outcome_at, map_entry, use_after, FileNode, same_set, game_by}
use Common.{node_by, Listed, Option, nat_eq, set_at, use_by, Aside, Names, arith, Bool, Game, Kept}
use Common.{List, Node, refl, ◌++◌, map, sym, ◌∷◌, ◌≡◌, []}
use Rattle.std.proofs.lemmas.List.{map-id}
use Rattle.gf_canon.proofs.lemmas.sameness.Unnamed.{unnamed_outcome_at, unnamed_renumbered}
use Rattle.gf_canon.proofs.lemmas.sameness.Unnamed.{unnamed_outcomes, unnamed_set_at, unnamed_sets}
use Rattle.gf_canon.proofs.lemmas.sameness.Unnamed.{keys_still}
use Rattle.gf_canon.proofs.lemmas.texts.FileOf.{file_nodes_are, entries_after}
use Rattle.gf_fraction.proofs.Offered.{Decides-ratio}
use Rattle.gf_token.specs.NameBy.{name_by}
use Rattle.std.proofs.lemmas.Slice.Eq.{slice_eq-Decides}
use Rattle.gf_canon.specs.inner.NamedBy.{outcome_by, set_by}

-- ---- nodes by their parts

pub by_parts : (names : Names) (n : FileNode) → node_by names n ≡ record {
  name = name_by names n.name;
  set = option_map (use_by (set_by names)) n.set;
  outcome = option_map (use_by (outcome_by names)) n.outcome;
}
by_parts names n = grind arith

pub ruleset equal_payoffs = (slice_eq-Decides, Decides-ratio)

-- ---- without names

use_aside : {K D : Type 0} (same : K → K → Bool) (f : D → D) (had bare : K → Option D)
    → ((k : K) → bare k ≡ option_map f (had k)) → (before : List K) (o : Option K)
    → option_map (use_after same bare before) o
    ≡ option_map (use_by f) (option_map (use_after same had before) o)
use_aside same f had bare are before o = grind arith

node_aside : (g : Game) (before : List (Listed Node)) (n : Node)
    → node_after (unnamed_game g) (map (map_entry unnamed_node) before) (unnamed_node n)
    ≡ node_by Aside (node_after g before n)
node_aside g before n =
    let set = use_aside same_set unnamed_set (set_at g) (set_at (unnamed_game g))
    (unnamed_set_at g) (filter_map (λ (e : Listed Node). e.node.set) before) n.set in
    let outcome = use_aside nat_eq unnamed_outcome (outcome_at g) (outcome_at (unnamed_game g))
    (unnamed_outcome_at g) (filter_map (λ (e : Listed Node). e.node.outcome) before) n.outcome in
    rw (keys_still (λ n. n.set) (λ n. refl) before, keys_still (λ n. n.outcome) (λ n. refl) before)
    (λ i. record { name = []; set = set i; outcome = outcome i })

nodes_of_all : (g : Game) (before es : List (Listed Node))
    → map (λ e. e.node) (entries_after (unnamed_game g) (map (map_entry unnamed_node) before)
    (map (map_entry unnamed_node) es))
    ≡ map (node_by Aside) (map (λ e. e.node) (entries_after g before es))
nodes_of_all g before [] = refl
nodes_of_all g before (e ∷ es) =
    let node = node_aside g before e.node in
    let seen = map-append (map_entry unnamed_node) before (e ∷ []) in
    cc (nodes_of_all g (before ++ e ∷ []) es)

file_nodes_aside : (g : Game) → file_nodes (unnamed_game g) ≡ map (node_by Aside) (file_nodes g)
file_nodes_aside g =
    let all = nodes_of_all g [] (flatten g.tree) in
    cc (file_nodes_are (unnamed_game g), flatten_map unnamed_node g.tree, file_nodes_are g)

numbers_aside : (g : Game) → first_use_numbers (unnamed_game g) ≡ first_use_numbers g
numbers_aside g = grind (arith, unnamed_sets, unnamed_outcomes)

-- ---- the canonical game

pub nodes_by : (names : Names) (g : Game)
    → file_nodes (canonical_game (game_by names g))
    ≡ map (node_by names) (file_nodes (canonical_game g))
nodes_by Kept g = sym (map-id (file_nodes (canonical_game g)))
nodes_by Aside g =
    let nodes = file_nodes_aside (canonical_game g) in
    cc (numbers_aside g, unnamed_renumbered (first_use_numbers g) g)
