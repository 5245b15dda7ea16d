use Rattle.gf_form.proofs.Common.{reverse, arith, ◌∷◌}
use Rattle.gf_form.proofs.lemmas.values.Walks.{turned, stops}
use Rattle.gf_form.proofs.values.walk.Walk.value.Goals as goal

pub leave-requires-clause-is_open : goal.leave-requires-clause-is_open
leave-requires-clause-is_open c =
    (rw (turned _ _ _ c.in-Some.ensures.items) at c.loop-next.invariant.1).0

pub returns-in_err-next-in-Some-clause-overflow : goal.returns-in_err-next-in-Some-clause-overflow
returns-in_err-next-in-Some-clause-overflow c h =
    let now = rw (c.in-Value.is, turned _ _ _ c.in-Some.ensures.items) at c.loop-next.invariant in
    stops c.args.self.now _ _ (reverse c.pop.new.self.items) now.2
    (c.in_err-next-in-Some.ensures.overflow (grind arith))

pub returns-in_err-next-in-Child-clause-overflow : goal.returns-in_err-next-in-Child-clause-overflow
returns-in_err-next-in-Child-clause-overflow c h =
    let now = rw c.in-Child.is at c.loop-next.invariant in
    stops c.args.self.now _ _ (c.in-Child.node ∷ reverse c.loop-next.open.items) now.2
    (c.in_err-next-in-Child.ensures.overflow (grind arith))
