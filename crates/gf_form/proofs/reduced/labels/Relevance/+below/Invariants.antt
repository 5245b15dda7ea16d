use Rattle.gf_form.proofs.Common.{is_left_by, Found, List, length, Marked, ◌*◌, ◌+◌, ◌++◌, ◌≡◌, ◌∷◌}
use Rattle.gf_form.proofs.reduced.labels.Relevance.+below.Given as goal

abbrev pub decreases-mark_below : goal.decreases-mark_below
decreases-mark_below l = 2 * length l.digits.now

abbrev pub decreases-mark_at : goal.decreases-mark_at
decreases-mark_at l = 2 * length l.faster.now + 1

abbrev pub invariant-mark_at-loop-rest : goal.invariant-mark_at-loop-rest
invariant-mark_at-loop-rest l = (done : List Found) × (l.strategies ≡ done ++ l.rest)
    × Marked (is_left_by l.player.game.now l.player.number (l.digit ∷ l.faster) l.level) done l.fn.self
    l.self

abbrev pub decreases-mark_at-loop-rest : goal.decreases-mark_at-loop-rest
decreases-mark_at-loop-rest l = length l.rest
