use Rattle.gf_form.proofs.Common.{◌+◌, ap, arith, get_or}
use Rattle.std.proofs.lemmas.Option.{IfSome_then}
use Rattle.gf_form.proofs.lemmas.rows.PairRows.{paid_pair}
use Rattle.gf_form.proofs.rows.written.Written.push_last.Goals as goal

pub push_row-requires-clause-paid : goal.push_row-requires-clause-paid
push_row-requires-clause-paid c =
    let before = c.loop-before.before in
    let settles = c.requires.settles in
    IfSome_then c.pair.result c.pair.ensures
    (λ pair. paid_pair c.args.asked.now.game.now settles.0 c.args.terms.now c.args.run.first
    (get_or c.args.asked.now.numbers.now before 0) (c.from-action.result + 1) c.next-chosen.result
    pair settles.1 (settles.2 before (omega (arith, c.loop-before.auto.before))
    (omega (arith, c.loop-before-test.true))) (ap (λ n. n + 1) c.from-action.ensures)
    (rw c.deref.ensures.value at c.next-chosen.ensures.chosen))
