use Rattle.gf_form.proofs.Common.{IsNonDecreasingBy-from_sort_by_key, list_any-IsPermutation, arith}
use Rattle.gf_form.proofs.Common.{order_of, mod-lt, rules, sym}
use Rattle.gf_form.proofs.reduced.visits.put_in_order.Goals as goal

pub returns-clause-same : goal.returns-clause-same
returns-clause-same c test =
    sym (list_any-IsPermutation test _ _ c.sort_unstable_by_key.ensures.permutation)

pub returns-clause-ordered : goal.returns-clause-ordered
returns-clause-ordered c i j d le less =
    let up = IsNonDecreasingBy-from_sort_by_key order_of _
    c.sort_unstable_by_key.ensures.sorted (λ a r f k. search rules) i j d le less in
    omega (arith, up, mod-lt)
