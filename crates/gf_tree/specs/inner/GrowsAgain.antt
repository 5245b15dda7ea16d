-- A tree grows again from its nodes in prefix order.
use Rattle.std.proofs.Common.{◌≡◌, List, [], ◌++◌, refl, sym, ap, ◌∙◌, append_assoc}
use Rattle.std.proofs.lemmas.List.{append-nil}
use Rattle.gf_tree.specs.Tree.{Tree, Trees, count}
use Rattle.gf_tree.specs.Tree.Tree.{branch}
use Rattle.gf_tree.specs.Tree.Trees.{none, more}
use Rattle.gf_tree.specs.PrefixOrder.{Listed, flatten, flatten_all}
use Rattle.gf_tree.specs.Grown.{first, others, grow, root}

-- these trees, and those after them
abbrev pub join : {N : Type 0} → Trees N → Trees N → Trees N
join none us = us
join (more t ts) us = more t (join ts us)

first_join : {N : Type 0} (ts us : Trees N) → first (count ts) (join ts us) ≡ ts
first_join none us = refl
first_join (more t ts) us = ap (more t) (first_join ts us)

others_join : {N : Type 0} (ts us : Trees N) → others (count ts) (join ts us) ≡ us
others_join none us = refl
others_join (more t ts) us = others_join ts us

mutual
  pub grow_tree : {N : Type 0} (t : Tree N) (es : List (Listed N))
      → grow (flatten t ++ es) ≡ more t (grow es)
  grow_tree (branch n ts) es = rw (grow_trees ts es, first_join, others_join) refl

  pub grow_trees : {N : Type 0} (ts : Trees N) (es : List (Listed N))
      → grow (flatten_all ts ++ es) ≡ join ts (grow es)
  grow_trees none es = refl
  grow_trees (more t ts) es =
      rw (append_assoc, grow_tree t (flatten_all ts ++ es), grow_trees ts es) refl

pub grows_again : {N : Type 0} (t : Tree N) → grow (flatten t) ≡ more t none
grows_again t = ap grow (sym (append-nil (flatten t))) ∙ grow_tree t []

pub root_grows_again : {N : Type 0} (n : N) (t : Tree N) → root n (grow (flatten t)) ≡ t
root_grows_again n t = ap (root n) (grows_again t)
