use Rattle.gf_form.proofs.Common.{outcome_with, label_of, sym}
use Rattle.gf_form.proofs.lemmas.values.Walks.{row_of_outcome, paid_some}
use Rattle.gf_form.proofs.values.payoffs.payoffs_at.Goals as goal

pub returns-clause-paid : goal.returns-clause-paid
returns-clause-paid c = λ k.
    paid_some c.args.game.now c.args.position c.in-Some.number
    (outcome_with (label_of c.in-Some-outcome.field-0-0) c.in-Some-outcome.payoffs.now) k
    (sym c.in-Some.ensures) (sym c.in-Some-outcome.ensures)

pub returns-clause-row : goal.returns-clause-row
returns-clause-row c =
    row_of_outcome _ c.requires.is_game c.requires.spellable _ _ (sym c.in-Some-outcome.ensures)
