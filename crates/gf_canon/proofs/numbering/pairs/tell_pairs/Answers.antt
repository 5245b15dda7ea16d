use Rattle.gf_canon.proofs.Common.{renumbering_pairs, append_assoc, on_ok_weaker, NumberPair, arith}
use Rattle.gf_canon.proofs.Common.{length-map, label_of, subst, List, []}
use Rattle.gf_canon.proofs.lemmas.numbers.CarriedPairs.{same_outcomes, same_sets}
use Rattle.gf_canon.proofs.numbering.pairs.tell_pairs.Goals as goal

pub returns : goal.returns
returns g c =
    let count = length-map c.players-players.result.now label_of in
    on_ok_weaker c.tell_outcomes.result (λ more r carries held. (
      renumbering_pairs r c.args.g.now,
      (λ s carried. (grind (arith, same_sets, same_outcomes))),
      subst (λ (pairs : List NumberPair). g.P.ReceivePairs.holds c.tell_outcomes.new.to pairs)
          (grind (arith, append_assoc))
          (more r _ carries (c.loop-before.invariant r [] carries held)),
    )) c.tell_outcomes.ensures
