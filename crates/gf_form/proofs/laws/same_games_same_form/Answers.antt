use Rattle.gf_form.proofs.lemmas.form.SameForms.{same_forms}
use Rattle.gf_form.proofs.laws.same_games_same_form.Goals as goal

pub returns-clause-forms : goal.returns-clause-forms
returns-clause-forms c = same_forms
