use Rattle.gf_form.proofs.Common.{◌≡◌, ◌++◌, drop, digits_with}
use Rattle.gf_form.proofs.reduced.digits.own_digits.Given as goal

abbrev pub invariant-loop-place : goal.invariant-loop-place
invariant-loop-place l = l.digits.items
    ++ digits_with l.place (drop l.place l.counts) (drop l.place l.steps)
    ≡ digits_with 0 l.counts l.steps
