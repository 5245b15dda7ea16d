use Rattle.gf_form.proofs.Common.{IsNonDecreasingBy-from_sort_by_key, rules, Path}
use Rattle.gf_form.proofs.lemmas.rows.ListedTerms.{have_permuted, have_then}
use Rattle.gf_form.proofs.rows.paid_nodes.paid_sums.Goals as goal

pub returns-clause-shares : goal.returns-clause-shares
returns-clause-shares c =
    have_then _ _ _ (have_permuted _ _ (rw c.in_ok-nodes.ensures at
    c.sort_unstable_by_key.ensures.permutation))
    (have_then _ _ _ c.add_up.ensures
    (have_permuted _ _ c.sort_unstable_by_key-2.ensures.permutation))

pub returns-clause-ordered : goal.returns-clause-ordered
returns-clause-ordered c =
    IsNonDecreasingBy-from_sort_by_key (λ (r : Path). r.demands) _
    c.sort_unstable_by_key-2.ensures.sorted (λ a r f k. search rules)
