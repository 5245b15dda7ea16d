-- Trees and their flat lists in prefix order determine each other.
use Rattle.gf_tree.proofs.Common.{append_assoc, flatten_all, zero-add, flatten, branch, Listed, ◌≡◌}
use Rattle.gf_tree.proofs.Common.{others, subst, arith, Trees, count, Fills, first, List, suc}
use Rattle.gf_tree.proofs.Common.{◌++◌, refl, Tree, none, more, grow, ◌+◌, ◌∷◌, sym, ◌∙◌, [], ap, ℕ}
use Rattle.std.proofs.lemmas.List.{append-nil}
pub use Rattle.gf_tree.specs.inner.GrowsAgain.{grows_again}

-- ---- what was flattened grows again

pub flatten_once : {N : Type 0} (t u : Tree N) → flatten t ≡ flatten u → t ≡ u
flatten_once t u e = ap (root_of t) (sym (grows_again t) ∙ ap grow e ∙ grows_again u)
  where
    root_of : {N : Type 0} → Tree N → Trees N → Tree N
    root_of t none = t
    root_of t (more u us) = u

-- ---- what grows flattens to the entries

parts : {N : Type 0} (n : ℕ) (ts : Trees N)
    → flatten_all (first n ts) ++ flatten_all (others n ts) ≡ flatten_all ts
parts (suc n) (more t ts) =
    cc (append_assoc (flatten t) (flatten_all (first n ts)) (flatten_all (others n ts)), parts n ts)
parts n ts = grind arith

count_first : {N : Type 0} (n m : ℕ) (ts : Trees N) → count ts ≡ n + m → count (first n ts) ≡ n
count_first (suc n) m (more t ts) e = ap suc (count_first n m ts (omega (arith, e)))
count_first n m ts e = grind arith

count_others : {N : Type 0} (n m : ℕ) (ts : Trees N) → count ts ≡ n + m → count (others n ts) ≡ m
count_others (suc n) m (more t ts) e = count_others n m ts (omega (arith, e))
count_others n m ts e = grind arith

grown : {N : Type 0} (due : ℕ) (es : List (Listed N)) → Fills due es
    → (count (grow es) ≡ due) × (flatten_all (grow es) ≡ es)
grown {N} (suc due) (e ∷ es) h =
    let r = grown (e.children + due) es h in
    let k : count (first e.children (grow es)) ≡ e.children =
    count_first e.children due (grow es) r.0 in
    let below : List (Listed N) =
    flatten_all (first e.children (grow es)) ++ flatten_all (others e.children (grow es)) in (
      ap suc (count_others e.children due (grow es) r.0),
      (λ i. record { node = e.node; children = k i } ∷ below)
          ∙ ap (λ x. e ∷ x) (parts e.children (grow es) ∙ r.1),
    )
grown due es h = grind arith

single : {N : Type 0} (ts : Trees N) → count ts ≡ 1 → (t : Tree N) × (ts ≡ more t none)
single (more t none) e = (t, refl)
single ts e = grind arith

pub one_tree : {N : Type 0} (es : List (Listed N)) → Fills 1 es → (t : Tree N) × (flatten t ≡ es)
one_tree es h = grind (arith, append-nil (flatten (single (grow es) (grown 1 es h).0).0))

-- ---- the entries of a tree fill one place

mutual
  fills_tree : {N : Type 0} (t : Tree N) (due : ℕ) (es : List (Listed N)) → Fills due es
      → Fills (suc due) (flatten t ++ es)
  fills_tree (branch n ts) due es h = fills_trees ts due es h

  fills_trees : {N : Type 0} (ts : Trees N) (due : ℕ) (es : List (Listed N)) → Fills due es
      → Fills (count ts + due) (flatten_all ts ++ es)
  fills_trees none due es h = rw zero-add h
  fills_trees (more t ts) due es h =
      let e : suc (count ts) + due ≡ suc (count ts + due) = omega arith in
      rw (e, append_assoc)
      (fills_tree t (count ts + due) (flatten_all ts ++ es) (fills_trees ts due es h))

pub fills_one : {N : Type 0} (t : Tree N) → Fills 1 (flatten t)
fills_one t = subst (Fills 1) (append-nil (flatten t)) (fills_tree t 0 [] tt)

pub ruleset one_tree_each = (one_tree, fills_one, flatten_once, grows_again)
