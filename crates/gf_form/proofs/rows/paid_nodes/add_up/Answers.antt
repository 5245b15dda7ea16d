use Rattle.gf_form.proofs.Common.{arith}
use Rattle.gf_form.proofs.lemmas.rows.ListedTerms.{added_up, have_then}
use Rattle.gf_form.proofs.rows.paid_nodes.add_up.Goals as goal

pub returns : goal.returns
returns c = have_then _ _ _
    (added_up _ (λ s x k b t y l r. grind arith) _ _ _ c.dedup_by.ensures.filtered)
    (added_up _ (λ s x k b t y l r. grind arith) _ _ _ c.dedup_by-2.ensures.filtered)
