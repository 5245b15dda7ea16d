use Rattle.gf_form.proofs.lemmas.form.SameForms.{same_reduced_forms}
use Rattle.gf_form.proofs.laws.same_games_same_reduced_form.Goals as goal

pub returns-clause-forms : goal.returns-clause-forms
returns-clause-forms c = same_reduced_forms
