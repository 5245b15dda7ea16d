use Rattle.gf_form.proofs.Common.{◌≡◌, numbers_from}
use Rattle.gf_form.proofs.strategies.profile_numbers.numbers_below.Given as goal

abbrev pub invariant-loop-number : goal.invariant-loop-number
invariant-loop-number l = l.numbers.items ≡ numbers_from 0 l.number
