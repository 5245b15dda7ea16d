use Rattle.gf_form.proofs.Common.{◌≡◌, ◌++◌, ◌+◌, map, take}
use Rattle.gf_form.proofs.strategies.profile_numbers.push_sums.Given as goal

abbrev pub invariant-loop-number : goal.invariant-loop-number
invariant-loop-number l =
    l.sums.items ≡ l.fn.sums.items
    ++ map (λ number. number + l.other) (take l.number-index l.numbers)
