use Rattle.gf_form.proofs.lemmas.form.Forms.{form_is_table}
use Rattle.gf_form.proofs.lemmas.reduced.ReducedForms.{reduced_is_table}
use Rattle.gf_form.proofs.laws.form_is_table.Goals as goal

pub returns : goal.returns
returns c = record { strategic = form_is_table; reduced = reduced_is_table }
