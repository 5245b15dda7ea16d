use Rattle.gf_form.proofs.Common.{arith, get_or, refl}
use Rattle.gf_form.proofs.lemmas.rows.PairRows.{next_row, paid_alike}
use Rattle.gf_form.proofs.rows.written.Written.push_alike.Goals as goal

pub push_to-requires-clause-above : goal.push_to-requires-clause-above
push_to-requires-clause-above c = (c.in-Some.ensures 0).above

pub push_to-requires-clause-within : goal.push_to-requires-clause-within
push_to-requires-clause-within c = (c.in-Some.ensures 0).within

pub loop-before-preserved : goal.loop-before-preserved
loop-before-preserved c =
    let asked = c.args.asked.now in
    let before = c.loop-before.before in
    let t = c.args.terms.now in
    let less = c.loop-before-test.true in
    let more = c.in_ok-push_to.ensures.row c.if-branch.true in
    next_row asked c.requires.due.0.is_game c.requires.due.0.spellable before t.players
    c.in-Some.pair c.loop-before.self _ c.in_ok-row.row.items c.push_to.new.rows.items
    (omega (arith, less, c.requires.due.2)) c.requires.terms.1
    (paid_alike asked.game.now c.requires.settles.0 t c.args.run.first
    (get_or asked.numbers.now before 0) c.len-all.result c.in-Some.pair c.requires.alike.0
    c.requires.alike.1 (omega (arith, c.len-all.ensures, t.demands.ok.0))
    (c.requires.settles.1 before (omega (arith, c.loop-before.auto.before)) (omega (arith, less)))
    c.in-Some.ensures) more
    (rw (c.deref.ensures.value, more.is, c.in_ok-row.ensures.items) at c.in_ok-push_few.ensures)
    refl c.loop-before.invariant
