use Rattle.gf_form.proofs.Common.{AreDigitsOf, steps_after, strides_of, AreMadeOf, in_order, take}
use Rattle.gf_form.proofs.Common.{action_counts, players_of, AreCounts, product, Game, map, ◌≡◌}
use Rattle.gf_form.proofs.rows.digits.Digits.new.Given as goal

abbrev pub invariant-loop-place : goal.invariant-loop-place
invariant-loop-place l = (g : Game) → AreCounts g l.counts →
    let first = take l.place (map (action_counts g) (players_of g)) in
    record {
      digits : AreDigitsOf (in_order first) l.digits.items l.values;
      steps : AreMadeOf (steps_after 1) first (map (λ own. own.items) l.steps.items);
      strides : AreMadeOf strides_of first (map (λ own. own.items) l.all_strides.items);
      choices : l.choices ≡ product (in_order first);
    }
