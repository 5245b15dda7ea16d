-- The sizes of subtrees, and what they skip.
use Rattle.gf_tree.proofs.Common
use Common.{length-append, subtree_sizes, append_assoc, subtrees_all, flatten_all, sizes_grown, map}
use Common.{append-nil, length-map, map-append, slice_get, drop-map, subtrees, zero-add, flatten, ℕ}
use Common.{list_of, skipped, Listed, branch, get_or, length, Begin, Trees, arith, count, List, suc}
use Common.{Tree, drop, more, none, refl, zero, ◌++◌, sym, ◌+◌, ◌<◌, ◌∙◌, ◌∷◌, ◌≡◌, ◌≤◌, [], ap}
use Rattle.std.proofs.Math.Seq.{drop-append_seam}
use Rattle.gf_tree.specs.inner.GrowsAgain.{join}

abbrev size_of : {N : Type 0} → Tree N → ℕ
size_of t = length (flatten t)

abbrev pub counts_of : {N : Type 0} → List (Listed N) → List ℕ
counts_of es = map (λ e. e.children) es

-- ---- a list after its first part

-- what comes after the element at a place
pub drop_suc : {X : Type 0} (xs ys : List X) (at : ℕ) (x : X) → drop at xs ≡ x ∷ ys
    → drop (suc at) xs ≡ ys
drop_suc [] ys zero x e = absurd cc
drop_suc [] ys (suc at) x e = absurd cc
drop_suc (y ∷ xs) ys zero x e = cc
drop_suc (y ∷ xs) ys (suc at) x e = drop_suc xs ys at x e

pub slice_get_after : {X : Type 0} (xs : List X) (a b : ℕ)
    → slice_get xs (a + b) ≡ slice_get (drop a xs) b
slice_get_after xs zero b = ap (slice_get xs) (zero-add b)
slice_get_after [] (suc a) b = refl
slice_get_after (x ∷ xs) (suc a) b = grind (arith, slice_get_after xs a b)

-- ---- a tree has as many subtrees as nodes

mutual
  pub subtrees_counted : {N : Type 0} (t : Tree N) → length (subtrees t) ≡ length (flatten t)
  subtrees_counted (branch n ts) = ap suc (all_counted ts)

  all_counted : {N : Type 0} (ts : Trees N) → length (subtrees_all ts) ≡ length (flatten_all ts)
  all_counted none = refl
  all_counted (more t ts) =
      length-append (subtrees t) (subtrees_all ts) ∙ (λ i. subtrees_counted t i + all_counted ts i)
      ∙ sym (length-append (flatten t) (flatten_all ts))

-- ---- trees are skipped by their sizes

abbrev sizes : {N : Type 0} → List (Tree N) → List ℕ
sizes ss = map (λ s. length (flatten s)) ss

-- the subtrees after those of a tree
past_tree : {N : Type 0} (t : Tree N) (ss : List (Tree N))
    → drop (size_of t) (subtrees t ++ ss) ≡ ss
past_tree t ss = rw (← subtrees_counted t) (drop-append_seam (subtrees t) ss)

sizes_after : {N : Type 0} (t : Tree N) (ss : List (Tree N))
    → drop (size_of t) (sizes (subtrees t ++ ss)) ≡ sizes ss
sizes_after t ss =
    drop-map (λ s. length (flatten s)) (size_of t) (subtrees t ++ ss) ∙ ap sizes (past_tree t ss)

-- a tree's sizes begin with its own, and there are as many
pub record Begins (k : ℕ) (xs others : List ℕ) : Type 0 where
  pub one_more : (n : ℕ) → Begin n others → Begin (suc n) xs
  pub skips : (n : ℕ) → skipped (suc n) xs ≡ k + skipped n others

begins : {N : Type 0} (t : Tree N) (ss : List (Tree N))
    → Begins (size_of t) (sizes (subtrees t ++ ss)) (sizes ss)
begins (branch n ts) ss = record {
  one_more = λ k h. (enough, rw (sizes_after (branch n ts) ss) h);
  skips = λ k. rw (sizes_after (branch n ts) ss) refl;
}
  where
    enough : suc (length (flatten_all ts)) ≤ suc (length (sizes (subtrees_all ts ++ ss)))
    enough = grind (arith, length-map, length-append, all_counted)

pub begin_first : {N : Type 0} (n : ℕ) (ts : Trees N) (ss : List (Tree N)) → n ≤ count ts
    → Begin n (sizes (subtrees_all ts ++ ss))
begin_first (suc n) (more t ts) ss h =
    rw (append_assoc (subtrees t) (subtrees_all ts) ss)
    ((begins t (subtrees_all ts ++ ss)).one_more n (begin_first n ts ss (omega (arith, h))))
begin_first n ts ss h = grind arith

pub skipped_all : {N : Type 0} (ts : Trees N) (ss : List (Tree N))
    → skipped (count ts) (sizes (subtrees_all ts ++ ss)) ≡ length (flatten_all ts)
skipped_all none ss = refl
skipped_all (more t ts) ss =
    rw (append_assoc (subtrees t) (subtrees_all ts) ss)
    ((begins t (subtrees_all ts ++ ss)).skips (count ts)
    ∙ ap (λ n. size_of t + n) (skipped_all ts ss)
    ∙ sym (length-append (flatten t) (flatten_all ts)))

-- after the first n trees stands the next
pub skips_to : {N : Type 0} (n : ℕ) (ts : Trees N) (ss : List (Tree N)) → n < count ts
    → slice_get (subtrees_all ts ++ ss) (skipped n (sizes (subtrees_all ts ++ ss)))
    ≡ slice_get (list_of ts) n
skips_to zero none ss h = absurd (omega (arith, h))
skips_to zero (more (branch n us) ts) ss h = refl
skips_to (suc n) none ss h = absurd (omega (arith, h))
skips_to (suc n) (more t ts) ss h =
    rw (append_assoc (subtrees t) (subtrees_all ts) ss, (begins t (subtrees_all ts ++ ss)).skips n)
    (slice_get_after (subtrees t ++ (subtrees_all ts ++ ss)) (size_of t)
    (skipped n (sizes (subtrees_all ts ++ ss)))
    ∙ ap (λ xs. slice_get xs (skipped n (sizes (subtrees_all ts ++ ss))))
    (past_tree t (subtrees_all ts ++ ss)) ∙ skips_to n ts ss (omega (arith, h)))

-- ---- the sizes grow from numbers of children

mutual
  grown_tree : {N : Type 0} (t : Tree N) (ss : List (Tree N)) (cs : List ℕ)
      → sizes_grown cs ≡ sizes ss
      → sizes_grown (counts_of (flatten t) ++ cs) ≡ sizes (subtrees t ++ ss)
  grown_tree (branch n ts) ss cs e =
      let below = grown_trees ts ss cs e in
      rw (below, skipped_all ts ss) refl

  grown_trees : {N : Type 0} (ts : Trees N) (ss : List (Tree N)) (cs : List ℕ)
      → sizes_grown cs ≡ sizes ss
      → sizes_grown (counts_of (flatten_all ts) ++ cs) ≡ sizes (subtrees_all ts ++ ss)
  grown_trees none ss cs e = e
  grown_trees (more t ts) ss cs e =
      rw (
        map-append (λ e. e.children) (flatten t) (flatten_all ts),
        append_assoc (counts_of (flatten t)) (counts_of (flatten_all ts)) cs,
        append_assoc (subtrees t) (subtrees_all ts) ss,
      ) (grown_tree t (subtrees_all ts ++ ss) (counts_of (flatten_all ts) ++ cs)
      (grown_trees ts ss cs e))

pub sizes_are : {N : Type 0} (t : Tree N) → sizes_grown (counts_of (flatten t)) ≡ subtree_sizes t
sizes_are t =
    cc (append-nil (counts_of (flatten t)), grown_tree t [] [] refl, append-nil (subtrees t))

-- ---- the nodes from a place on

flatten_join : {N : Type 0} (ts us : Trees N)
    → flatten_all (join ts us) ≡ flatten_all ts ++ flatten_all us
flatten_join none us = refl
flatten_join (more t ts) us = ap (λ es. flatten t ++ es) (flatten_join ts us)
    ∙ sym (append_assoc (flatten t) (flatten_all ts) (flatten_all us))

subtrees_join : {N : Type 0} (ts us : Trees N)
    → subtrees_all (join ts us) ≡ subtrees_all ts ++ subtrees_all us
subtrees_join none us = refl
subtrees_join (more t ts) us = ap (λ es. subtrees t ++ es) (subtrees_join ts us)
    ∙ sym (append_assoc (subtrees t) (subtrees_all ts) (subtrees_all us))

-- from this place on stands a tree, and other trees after it
pub record Stands {N : Type 0} (es : List (Listed N)) (ss : List (Tree N)) (at : ℕ) (n : N)
    (ts us : Trees N) : Type 0 where
  pub entries : drop at es ≡ flatten (branch n ts) ++ flatten_all us
  pub trees : drop at ss ≡ subtrees (branch n ts) ++ subtrees_all us

pub record SomeStands {N : Type 0} (es : List (Listed N)) (ss : List (Tree N))
    (at : ℕ) : Type 0 where
  pub node : N
  pub below : Trees N
  pub others : Trees N
  pub stands : Stands es ss at node below others

stands_all : {N : Type 0} (at : ℕ) (ts : Trees N) → at < length (flatten_all ts)
    → SomeStands (flatten_all ts) (subtrees_all ts) at
stands_all zero none h = absurd (omega (arith, h))
stands_all zero (more (branch n ts) us) h = grind arith
stands_all (suc at) none h = absurd (omega (arith, h))
stands_all (suc at) (more (branch n ts) us) h =
    let r = stands_all at (join ts us) (rw (flatten_join ts us) (omega (arith, h))) in
    record {
      node = r.node;
      below = r.below;
      others = r.others;
      stands = record {
        entries = ap (drop at) (sym (flatten_join ts us)) ∙ r.stands.entries;
        trees = ap (drop at) (sym (subtrees_join ts us)) ∙ r.stands.trees;
      };
    }

pub stands : {N : Type 0} (t : Tree N) (at : ℕ) → at < length (flatten t)
    → SomeStands (flatten t) (subtrees t) at
stands t at h =
    let r = stands_all at (more t none) (rw (append-nil (flatten t)) h) in
    record {
      node = r.node;
      below = r.below;
      others = r.others;
      stands = record {
        entries = ap (drop at) (sym (append-nil (flatten t))) ∙ r.stands.entries;
        trees = ap (drop at) (sym (append-nil (subtrees t))) ∙ r.stands.trees;
      };
    }

-- ---- one step of skipping

-- the sizes at this place begin with s, which is skipped
pub record SkipsOnce (xs : List ℕ) (at left s : ℕ) : Type 0 where
  pub below : at < length xs
  pub ends : at + s ≤ length xs
  pub begin : Begin left (drop (at + s) xs)
  pub same : at + s + skipped left (drop (at + s) xs) ≡ at + skipped (suc left) (drop at xs)

pub skips_once : (xs : List ℕ) (at left : ℕ) → Begin (suc left) (drop at xs)
    → SkipsOnce xs at left (get_or xs at 0)
skips_once [] zero left h = absurd h
skips_once [] (suc at) left h = absurd h
skips_once (s ∷ xs) zero left h = (grind arith)
skips_once (s ∷ xs) (suc at) left h =
    let r = skips_once xs at left h in
    let t = get_or xs at 0 in
    let e : suc at + t ≡ suc (at + t) = omega arith in
    grind arith

-- ---- the sizes after a node begin with its children's

pub begin_children : {N : Type 0} (ts us : Trees N)
    → Begin (count ts) (sizes_grown (counts_of (flatten_all ts ++ flatten_all us)))
begin_children ts us =
    let behind = grown_trees us [] [] refl in
    let others : sizes_grown (counts_of (flatten_all us)) ≡ sizes (subtrees_all us) =
    cc (append-nil (counts_of (flatten_all us)), behind, append-nil (subtrees_all us)) in
    rw (
      map-append (λ e. e.children) (flatten_all ts) (flatten_all us),
      grown_trees ts (subtrees_all us) (counts_of (flatten_all us)) others,
    ) (begin_first (count ts) ts (subtrees_all us) (omega arith))
