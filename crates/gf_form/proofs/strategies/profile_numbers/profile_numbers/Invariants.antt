use Rattle.gf_form.proofs.Common.{drop, map, ArePicked}
use Rattle.gf_form.proofs.strategies.profile_numbers.profile_numbers.Given as goal

abbrev pub invariant-loop-place : goal.invariant-loop-place
invariant-loop-place l =
    ArePicked (drop l.place l.counts) (drop l.place (map (λ own. own.items) l.picked))
    l.numbers.items
