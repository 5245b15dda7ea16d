use Rattle.gf_form.proofs.Common.{AreDigitsOf, steps_after, reverse, List, drop, ◌++◌, ◌≡◌, ℕ}
use Rattle.gf_form.proofs.rows.digits.put_digits.Given as goal

abbrev pub invariant-loop-place : goal.invariant-loop-place
invariant-loop-place l = (later : List ℕ) → AreDigitsOf later l.fn.digits.items l.values
    → AreDigitsOf (drop l.place l.actions ++ later) l.digits.items l.all
    × (reverse l.steps.items ++ steps_after 1 later
    ≡ steps_after 1 (drop l.place l.actions ++ later))
