use Rattle.gf_form.proofs.lemmas.form.Forms.{strategic_form_exists}
use Rattle.gf_form.proofs.lemmas.reduced.ReducedForms.{reduced_form_exists}
use Rattle.gf_form.proofs.laws.one_form.Goals as goal

pub returns-clause-strategic_exists : goal.returns-clause-strategic_exists
returns-clause-strategic_exists c = strategic_form_exists

pub returns-clause-reduced_exists : goal.returns-clause-reduced_exists
returns-clause-reduced_exists c = reduced_form_exists
