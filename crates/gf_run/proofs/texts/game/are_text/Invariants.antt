use Rattle.std.proofs.Common.{◌≡◌, ◌++◌, ℕ, List, length}
use Rattle.gf_run.proofs.texts.game.are_text.Given as goal

-- both begin with what was compared
abbrev pub invariant-loop-text : goal.invariant-loop-text
invariant-loop-text l = (done : List ℕ) × (l.fn.bytes ≡ done ++ l.rest)
    × (l.fn.text.rest ≡ done ++ l.text.rest)

abbrev pub decreases-loop-text : goal.decreases-loop-text
decreases-loop-text l = length l.text.rest
