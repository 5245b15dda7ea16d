use Rattle.gf_form.proofs.Common.{reduced_labels, IfOk-weaker, IsPaidAt, arith}
use Rattle.gf_form.proofs.lemmas.reduced.FirstStrategies.{fewer_profiles, reduced_made}
use Rattle.gf_form.proofs.lemmas.reduced.ReducedForms.{reduced_form_profiles, some_reduced_label}
use Rattle.gf_form.proofs.lemmas.form.Forms.{fits_table, form_made}
use Rattle.gf_form.proofs.reduced_form.form_with.Goals as goal

pub table_with-requires-clause-fits : goal.table_with-requires-clause-fits
table_with-requires-clause-fits c =
    let g = c.args.game.now in
    let game = c.requires.is_game in
    fits_table (reduced_labels g) (IsPaidAt g) g _ _ _ (reduced_form_profiles g) c.requires.labels
    (λ p row h. (_, h.paid)) c.requires.rows (some_reduced_label g game)
    (omega (arith, fewer_profiles g, c.requires.few))

pub returns : goal.returns
returns c =
    let g = c.args.game.now in
    IfOk-weaker c.table_with.result _ _
    (λ t made. reduced_made g t (form_made (reduced_labels g) (IsPaidAt g) g _ _ _
    (reduced_form_profiles g) c.requires.labels (λ p row h. (_, h.paid)) c.requires.rows t made))
    c.table_with.ensures
