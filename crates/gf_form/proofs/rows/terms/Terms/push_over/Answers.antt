use Rattle.gf_form.proofs.Common.{all_terms, get_or_default, term_at, Global, HasSum, IsShaped}
use Rattle.gf_form.proofs.Common.{◌∙◌, sym, Vec, ap, ℤ}
use Rattle.gf_form.proofs.lemmas.rows.FlatRows.{is_pushed, row_length, sum_made}
use Rattle.gf_form.proofs.rows.terms.Terms.push_over.Goals as goal

made : (c : goal.In_ok-push_head)
    → HasSum (term_at c.args.from.now c.args.first) (term_at c.args.from.now c.args.second)
    (all_terms c.args.self.now) (all_terms c.push_head.new.self) × IsShaped c.push_head.new.self
made c =
    let from = c.args.from.now in
    let scale = c.args.scale in
    let den = c.in_ok-den.den in
    let shaped = c.requires.shaped in
    let after = c.in_ok-push_head.ensures in
    let first = row_length from c.args.first shaped.1 c.requires.first in
    let second = row_length from c.args.second shaped.1 c.requires.second in
    let more = rw (c.row-one.ensures, c.row-other.ensures) at c.in_ok-den.ensures.row in
    let pushed = is_pushed c.args.self.now c.push_head.new.self (record {
      head = record { demands = c.index.result.now; den = den; size = scale.size };
      row = more.row;
    }) shaped.0 (more.one_each ∙ first ∙ sym c.requires.players) after.alike.0 after.noted
    after.demands after.scaled (ap (λ (v : Vec ℤ Global). v.items) after.numbers ∙ more.is) in (
      record {
        sum = _;
        is = pushed.pushed;
        demands = c.index.ensures
            ∙ get_or_default from.demands.items c.args.first c.index.result.now 0 c.requires.first;
        adds = sum_made (term_at from c.args.first) (term_at from c.args.second) scale
            c.index.result.now den _ _ (first ∙ sym second) more c.requires.scale
            c.in_ok-den.ensures.den;
      },
      pushed.shaped,
    )

pub returns-clause-sum : goal.returns-clause-sum
returns-clause-sum c = (made c).0

pub returns-clause-shaped : goal.returns-clause-shaped
returns-clause-shaped c = (made c).1
