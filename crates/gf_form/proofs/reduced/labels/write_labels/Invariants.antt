use Rattle.gf_form.proofs.Common.{◌≡◌, map, numbered, reduced, reduced_label, take}
use Rattle.gf_form.proofs.reduced.labels.write_labels.Given as goal

abbrev pub invariant-loop-place : goal.invariant-loop-place
invariant-loop-place l = l.labels
    ≡ map (λ n. reduced_label (reduced l.player.game.now l.player.number
    (numbered l.player.game.now l.player.number n))) (take l.place l.numbers)
