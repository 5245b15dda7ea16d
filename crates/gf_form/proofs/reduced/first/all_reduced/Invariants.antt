use Rattle.gf_form.proofs.Common.{reduced_labels, numbers_from, AreFirstsOf, AllZip, map, ◌≡◌}
use Rattle.gf_form.proofs.reduced.first.all_reduced.Given as goal

abbrev pub invariant-loop-place : goal.invariant-loop-place
invariant-loop-place l =
    AllZip (AreFirstsOf l.game) (map (λ own. own.items) l.firsts.items) (numbers_from 1 l.place)
    × (l.labels.items ≡ map (reduced_labels l.game) (numbers_from 1 l.place))
