use Rattle.gf_tree.proofs.Common.{refl, arith, rules}
use Rattle.gf_tree.proofs.lemmas.stores.OutcomesStored.{outcome_stored}

pub invariant_of-self-2 : Rattle.gf_tree.proofs.game.outcomes.Outcomes.end.Goals.invariant_of-self-2
invariant_of-self-2 c =
    let o = c.self.inside in
    outcome_stored o.entries.entries o.payoffs.items o.from c.args.self.now c.self.view_is
    c.self.invariant (
      c.args.number,
      record {
        count = c.in-Ok.count;
        name = c.args.name;
        start = o.from;
      },
    ) c.push.new.map.entries c.len-end.result (search rules) (omega arith) refl
    (omega (arith, c.self.invariant.stretches.within, c.in-Ok.ensures))
    (omega (arith, c.in_ok-place.ensures.ok))
