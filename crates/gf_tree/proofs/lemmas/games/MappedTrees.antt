-- Trees with other nodes in place of theirs.
use Rattle.gf_tree.proofs.Common.{◌≡◌, List, [], ◌∷◌, map, Option, Some, refl, ap, inl, inr, arith}
use Rattle.gf_tree.proofs.Common.{filter_map, Tree, Trees, count, map_tree, map_trees, branch, none}
use Rattle.gf_tree.proofs.Common.{more, Listed, flatten, flatten_all, option_map}
use Rattle.gf_tree.proofs.lemmas.games.Consistent.{map_entry}
use Rattle.gf_tree.proofs.lemmas.games.Uses.{Has, has_later}
use Rattle.gf_tree.proofs.lemmas.games.Members.{in_left, in_right}

mutual
  pub map_tree_same : {N M : Type 0} (f g : N → M) (t : Tree N)
      → ((e : Listed N) → Has (flatten t) e → f e.node ≡ g e.node) → map_tree f t ≡ map_tree g t
  map_tree_same f g (branch n ts) h =
      λ i. branch (h (record { node = n; children = count ts }) (inl refl) i)
      (map_trees_same f g ts (λ e k. h e (inr k)) i)

  pub map_trees_same : {N M : Type 0} (f g : N → M) (ts : Trees N)
      → ((e : Listed N) → Has (flatten_all ts) e → f e.node ≡ g e.node)
      → map_trees f ts ≡ map_trees g ts
  map_trees_same f g none h = refl
  map_trees_same f g (more t ts) h =
      λ i. more (map_tree_same f g t (λ e k. h e (in_left (flatten t) (flatten_all ts) e k)) i)
      (map_trees_same f g ts (λ e k. h e (in_right (flatten t) (flatten_all ts) e k)) i)

mutual
  pub map_tree_twice : {N M O : Type 0} (f : M → O) (g : N → M) (t : Tree N)
      → map_tree f (map_tree g t) ≡ map_tree (λ n. f (g n)) t
  map_tree_twice f g (branch n ts) = ap (branch (f (g n))) (map_trees_twice f g ts)

  pub map_trees_twice : {N M O : Type 0} (f : M → O) (g : N → M) (ts : Trees N)
      → map_trees f (map_trees g ts) ≡ map_trees (λ n. f (g n)) ts
  map_trees_twice f g none = refl
  map_trees_twice f g (more t ts) = λ i. more (map_tree_twice f g t i) (map_trees_twice f g ts i)

mutual
  pub map_tree_itself : {N : Type 0} (t : Tree N) → map_tree (λ n. n) t ≡ t
  map_tree_itself (branch n ts) = ap (branch n) (map_trees_itself ts)

  pub map_trees_itself : {N : Type 0} (ts : Trees N) → map_trees (λ n. n) ts ≡ ts
  map_trees_itself none = refl
  map_trees_itself (more t ts) = λ i. more (map_tree_itself t i) (map_trees_itself ts i)

-- ---- what nodes hold

-- nodes hold what they held, by other names
pub held_map : {N M X Y : Type 0} (f : N → M) (g : X → Y)
    (holds : N → Option X) (holds' : M → Option Y)
    → ((n : N) → holds' (f n) ≡ option_map g (holds n)) → (es : List (Listed N))
    → filter_map (λ e. holds' e.node) (map (map_entry f) es)
    ≡ map g (filter_map (λ e. holds e.node) es)
held_map f g holds holds' h [] = refl
held_map f g holds holds' h (e ∷ es) = grind (arith, held_map f g holds holds' h es)

pub held : {N X : Type 0} (holds : N → Option X) (es : List (Listed N)) (e : Listed N) (x : X)
    → Has es e → holds e.node ≡ Some x → Has (filter_map (λ e. holds e.node) es) x
held holds [] e x i h = absurd i
held holds (d ∷ es) e x (inl q) h = grind arith
held holds (d ∷ es) e x (inr i) h =
    has_later (holds d.node) (filter_map (λ e. holds e.node) es) x (held holds es e x i h)
