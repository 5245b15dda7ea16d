use Rattle.gf_form.proofs.Common.{actions_at, length-map, arith, ◌∷◌}
use Rattle.gf_form.proofs.lemmas.rows.ChoiceSums.{settled_summed}
use Rattle.gf_form.proofs.lemmas.rows.PairRows.{settled_from}
use Rattle.gf_form.proofs.rows.written.Written.+rows.Goals as goal

pub push_rows-push_last-requires-clause-settles : goal.push_rows-push_last-requires-clause-settles
push_rows-push_last-requires-clause-settles t c =
    (actions_at c.args.digits.now, grind (arith, length-map), c.requires.settled.settles)

pub push_rows-push_alike-requires-clause-settles : goal.push_rows-push_alike-requires-clause-settles
push_rows-push_alike-requires-clause-settles t c =
    (actions_at c.args.digits.now, c.requires.settled.settles)

pub push_summed-push_each-requires : goal.push_summed-push_each-requires
push_summed-push_each-requires t c =
    let due = c.requires.due in
    let summed = c.in_ok-summed.ensures in (
      omega (arith, c.decreases),
      (
        (
          due.0,
          due.1,
          due.2,
          record {
            rows = due.3.rows;
            values = due.3.values;
            nodes = due.3.nodes;
          },
        ),
        settled_summed c.args.asked.now c.args.terms.now c.in_ok-summed.summed
            (c.args.slowest ∷ c.args.faster.now) c.args.run c.requires.settled summed.sums
            summed.alike summed.order,
      ),
    )

pub push_each-choose-requires-clause-settled : goal.push_each-choose-requires-clause-settled
push_each-choose-requires-clause-settled t c =
    grind (arith, settled_from, c.loop-rest.invariant, c.requires.settled)
