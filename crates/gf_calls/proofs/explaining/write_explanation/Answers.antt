use Rattle.std.proofs.Common.{◌≡◌, ◌≢◌, ◌∙◌, ℕ, List, ap, refl, rules, subst}
use Rattle.gf_token.specs.declared.fault.Why.{Why}
use Rattle.gf_calls.specs.Explained.{explained, out_of_memory}
use Rattle.gf_calls.specs.Handed.{IsHandedOut}
use Rattle.gf_calls.specs.Refused.{refusal_status}
use Rattle.gf_calls.proofs.explaining.write_explanation.Goals as goal

pub returns-then-eq : goal.returns-then-eq
returns-then-eq c =
    let is : c.in-Err.refusal.why ≡ Why.Memory = search rules in
    out_of_memory c.in-Err.refusal c.in-Err.ensures.refused
    (c.report-status.ensures.status ∙ ap refusal_status is)
    (rw c.report-status.ensures.numbers refl)

pub returns-in-Ok-explanation_of : goal.returns-in-Ok-explanation_of
returns-in-Ok-explanation_of c =
    let other : c.in-Err.refusal.why ≢ Why.Memory = search rules in
    explained c.in-Err.refusal c.in-Err.ensures.refused other c.in-Ok-explanation_of.text.items
    c.in-Ok-explanation_of.ensures c.hand_out.result
    (subst (λ (text : List ℕ). IsHandedOut text c.args.out.now c.hand_out.new.out
    c.hand_out.new.needed c.hand_out.result) c.deref.ensures.value c.hand_out.ensures)
    c.explained_status.ensures c.report-status.ensures.numbers

pub returns-in-Err-explanation_of : goal.returns-in-Err-explanation_of
returns-in-Err-explanation_of c = out_of_memory c.in-Err.refusal c.in-Err.ensures.refused refl
    (rw c.report-status.ensures.numbers refl)
