use Rattle.gf_form.proofs.Common.{strategy_labels, ArePayoffsAt, IfOk-weaker, length-map, arith}
use Rattle.gf_form.proofs.lemmas.form.Forms.{fits_table, form_made, all_profiles}
use Rattle.gf_form.proofs.lemmas.strategies.CountedActions.{some_strategy}
use Rattle.gf_form.proofs.strategic_form.form_with.Goals as goal

pub table_with-requires-clause-fits : goal.table_with-requires-clause-fits
table_with-requires-clause-fits c =
    let g = c.args.game.now in
    fits_table (strategy_labels g) (ArePayoffsAt g) g _ _ _ (all_profiles g)
    (c.in_ok-labels.ensures g c.requires.counts) (λ p row h. (_, h)) c.requires.rows
    (λ player. grind (arith, length-map, some_strategy, c.requires.counts.is_game))
    c.requires.counts.within

pub returns : goal.returns
returns c =
    let g = c.args.game.now in
    IfOk-weaker c.table_with.result _ _
    (form_made (strategy_labels g) (ArePayoffsAt g) g _ _ _ (all_profiles g)
    (c.in_ok-labels.ensures g c.requires.counts) (λ p row h. (_, h)) c.requires.rows)
    c.table_with.ensures
