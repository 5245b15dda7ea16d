use Rattle.gf_form.proofs.Common.{◌≡◌, map, take, all_choices, strategy_label}
use Rattle.gf_form.proofs.strategies.numbered.labels_in_turn.Given as goal

abbrev pub invariant-loop-number : goal.invariant-loop-number
invariant-loop-number l = l.labels ≡ map strategy_label (take l.number (all_choices l.counts))
