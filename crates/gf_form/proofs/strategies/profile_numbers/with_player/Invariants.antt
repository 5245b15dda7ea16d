use Rattle.gf_form.proofs.Common.{◌≡◌, ◌+◌, ◌*◌, map, take, flat_map}
use Rattle.gf_form.proofs.strategies.profile_numbers.with_player.Given as goal

abbrev pub invariant-loop-rest : goal.invariant-loop-rest
invariant-loop-rest l =
    l.numbers.items ≡ flat_map (λ rest. map (λ number. number + l.count * rest) l.own)
    (take l.rest-index l.others)
