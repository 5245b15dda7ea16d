use Rattle.gf_form.proofs.Common.{refl}
use Rattle.gf_form.proofs.lemmas.rows.PairRows.{next_row}
use Rattle.gf_form.proofs.rows.written.Written.push_row.Goals as goal

pub returns-then-branch-clause-written : goal.returns-then-branch-clause-written
returns-then-branch-clause-written c =
    let more = c.in_ok-push_to.ensures.row c.if-branch.true in
    next_row c.args.asked.now c.requires.asked.is_game c.requires.asked.spellable
    c.args.before c.args.players c.in-Some.pair c.args.self.now _ _ _ c.requires.within
    c.requires.players (rw c.in-Some.is at c.requires.paid) more more.is refl c.requires.written
