use Rattle.gf_form.proofs.lemmas.rows.PairRows.{one_only}
use Rattle.gf_form.proofs.rows.terms.Terms.only.Goals as goal

pub returns : goal.returns
returns c =
    one_only c.args.self.now c.args.start c.args.end
    (record { head = c.head.result; numbers = c.row.result }) c.requires.within
    c.if-start-end.false c.if-end-start-gt1.false c.head.ensures c.row.ensures
