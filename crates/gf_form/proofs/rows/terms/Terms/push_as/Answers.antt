use Rattle.gf_form.proofs.Common.{term_at, with_demands, Global, ◌∙◌, Vec, sym, ap, ℤ}
use Rattle.gf_form.proofs.lemmas.rows.FlatRows.{Pushed, is_pushed, row_length}
use Rattle.gf_form.proofs.rows.terms.Terms.push_as.Goals as goal

made : (c : goal.In_ok-push_like) → Pushed c.args.self.now c.push_like.new.self
    (with_demands c.args.demands (term_at c.args.from.now c.args.place))
made c =
    let from = c.args.from.now in
    let place = c.args.place in
    let shaped = c.requires.shaped.1 in
    let within = c.requires.within in
    let after = c.in_ok-push_like.ensures in
    is_pushed c.args.self.now c.push_like.new.self
    (with_demands c.args.demands (term_at from place)) c.requires.shaped.0
    (row_length from place shaped within ∙ sym c.requires.alike.0) after.alike.0
    after.noted after.demands
    after.scaled (ap (λ (v : Vec ℤ Global). v.items) after.numbers
    ∙ rw c.row.ensures at c.in_ok-push_few.ensures)

pub returns-clause-pushed : goal.returns-clause-pushed
returns-clause-pushed c = (made c).pushed

pub returns-clause-shaped : goal.returns-clause-shaped
returns-clause-shaped c = (made c).shaped
