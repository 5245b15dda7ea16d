use Rattle.gf_form.proofs.Common.{Global, Term, Vec, all_terms, ap, pos, ◌∙◌, ℤ}
use Rattle.gf_form.proofs.lemmas.rows.FlatRows.{is_pushed, ordered_more}
use Rattle.gf_form.proofs.lemmas.rows.ListedTerms.{nodes_more}
use Rattle.gf_form.proofs.rows.listed.push_nodes.Goals as goal

pub returns-clause-told : goal.returns-clause-told
returns-clause-told c rs before =
    let over = c.in_ok-over.ensures in
    let after = c.in_ok-push_head.ensures in
    let old = c.args.terms.now in
    let new = c.push_head.new.self in
    let e : Term = record {
      head = record {
        demands = c.args.demands;
        den = c.in_ok-over.over.den;
        size = c.in_ok-over.over.size;
      };
      row = over.row;
    } in
    let more = is_pushed old new e c.requires.order.0 over.one_each after.alike.0 after.noted
    after.demands after.scaled (ap (λ (v : Vec ℤ Global). v.items) after.numbers ∙ over.is) in
    record {
      told = λ g are. rw (more.pushed, after.alike.0)
          (nodes_more g old.players rs c.args.nodes.now (all_terms old) e c.requires.alike
          (λ above k less. (over.each k (pos 0) less).1 above g are) (before.told g are));
      order = (more.shaped, ordered_more old new e more.pushed before.order.1 c.requires.ends);
    }
