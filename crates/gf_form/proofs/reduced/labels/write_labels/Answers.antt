use Rattle.gf_form.proofs.Common.{all_choices, map-append, take_more, numbered, take_all, get_or}
use Rattle.gf_form.proofs.Common.{length, arith, List, sym, ◌∙◌, ◌≡◌, [], ap, ℕ}
use Rattle.gf_form.proofs.lemmas.reduced.MarkedSets.{label_written, labels_written, number_within}
use Rattle.gf_form.proofs.lemmas.reduced.MarkedSets.{row_fits}
use Rattle.gf_form.proofs.reduced.labels.write_labels.Goals.{After-deref}
use Rattle.gf_form.proofs.reduced.labels.write_labels.Goals as goal

strategy_is : (c : goal.After-deref) → c.deref.result.now
    ≡ numbered c.args.player.now.game.now c.args.player.now.number
    (get_or c.args.numbers.now c.loop-place.place 0)
strategy_is c =
    c.deref.ensures.value ∙ c.in_ok-write_strategy.ensures
    ∙ ap (λ (counts : List ℕ). get_or (all_choices counts)
    (get_or c.args.numbers.now c.loop-place.place 0) []) c.requires.player.counts

pub write_strategy-requires-clause-within : goal.write_strategy-requires-clause-within
write_strategy-requires-clause-within c = grind (arith, number_within)

pub write_label-requires : goal.write_label-requires
write_label-requires c =
    ap length c.row.ensures
    ∙ row_fits _ c.requires.player.is_game _ _ c.requires.firsts _ _ c.loop-place-test.true
    (c.requires.rows _ c.loop-place-test.true)
    ∙ sym (ap length (strategy_is (goal.at.write_label-requires c).After-deref))

pub loop-place-preserved : goal.loop-place-preserved
loop-place-preserved c =
    let written = label_written _ c.requires.player.is_game _ _ c.requires.firsts _ _
    c.loop-place-test.true (c.requires.rows _ c.loop-place-test.true) in
    let strategy = strategy_is (goal.at.loop-place-preserved c).After-deref in
    let more = take_more c.args.numbers.now c.loop-place.place 0 c.loop-place-test.true in
    grind (arith, written, strategy, more, map-append, c.of_spelling.ensures)

pub returns : goal.returns
returns c =
    let all = labels_written _ c.requires.player.is_game _ _ c.requires.firsts in
    grind (arith, all, take_all)
