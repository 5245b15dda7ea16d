use Rattle.gf_form.proofs.Common.{AreTold, IsLevel, ap, arith, length, subst, sym, ◌*◌, ◌∙◌, ℕ}
use Rattle.gf_form.proofs.lemmas.reduced.SearchStarts.{all_in_turn, told_all}
use Rattle.gf_form.proofs.lemmas.reduced.MarkedSets.{found_told, rows_marked}
use Rattle.gf_form.proofs.reduced.labels.labels_of.Goals.{After-deref-2}
use Rattle.gf_form.proofs.reduced.labels.labels_of.Goals as goal

told : (c : goal.After-deref-2) → AreTold c.args.player.now.game.now c.args.player.now.number
    c.args.player.now.digits.items c.args.numbers.now c.in_ok-level.level
    c.in_ok-strategies.strategies.items
told c =
    told_all c.requires.player (omega arith) c.requires.visits c.in_ok-level.level
    c.in_ok-level.ensures.unknown c.in_ok-level.ensures.visits
    (subst (λ (sets : ℕ). IsLevel sets c.in_ok-level.level) (ap length c.requires.player.counts)
    c.in_ok-level.ensures.level) _ c.requires.firsts _ c.in_ok-strategies.ensures.counted
    c.in_ok-strategies.ensures.each

pub mark_below-requires-clause-turn : goal.mark_below-requires-clause-turn
mark_below-requires-clause-turn c =
    rw c.deref.ensures.value (all_in_turn c.requires.player (omega arith))

pub mark_below-requires-clause-found : goal.mark_below-requires-clause-found
mark_below-requires-clause-found c =
    rw c.deref-2.ensures.value (found_told _ (told c) (c.in_ok-relevance.ensures.room
    ∙ ap (λ n. length c.args.numbers.now * n) (sym c.in_ok-relevance.ensures.sets)))

pub write_labels-requires-clause-rows : goal.write_labels-requires-clause-rows
write_labels-requires-clause-rows c =
    let are = told (goal.at.write_labels-requires-clause-rows c).After-deref-2 in
    rows_marked c.in_ok-relevance.relevance _ _ are (c.in_ok-relevance.ensures.sets
    ∙ sym c.in_ok-level.ensures.level.counted ∙ are.levelled.counted)
    (c.in_ok-relevance.ensures.room
    ∙ ap (λ n. length c.args.numbers.now * n) (sym c.in_ok-relevance.ensures.sets))
    c.in_ok-relevance.ensures.none c.in_ok-strategies.ensures.counted
    c.in_ok-strategies.ensures.each
    (rw (c.deref.ensures.value, c.deref-2.ensures.value) at c.in_ok-mark_below.ensures.marked)
