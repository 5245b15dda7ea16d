use Rattle.gf_canon.proofs.Common.{◌≡◌, map}
use Rattle.gf_canon.proofs.lemmas.numbers.Canonical.{lists_through}
use Rattle.gf_canon.proofs.numbering.set_numbers.Given as goal

abbrev pub invariant-loop-at : goal.invariant-loop-at
invariant-loop-at l = map (λ own. own.items) l.lists.items ≡ lists_through l.g l.at
