use Rattle.gf_form.proofs.Common.{Global, Term, Vec, arith, ap, get_or, pos, refl, rows_of, ◌∙◌, ◌≡◌}
use Rattle.gf_form.proofs.Common.{ℕ, ℤ}
use Rattle.gf_form.proofs.lemmas.rows.FlatRows.{cut_at, is_pushed, ordered_more, same_terms}
use Rattle.gf_form.proofs.lemmas.rows.PayingTerms.{fitting_more, fitting_same}
use Rattle.gf_form.proofs.rows.listed.push_fitting.Goals as goal

pub returns-then-are_zero-clause-fitting : goal.returns-then-are_zero-clause-fitting
returns-then-are_zero-clause-fitting c rs before =
    let over = c.in_ok-over.ensures in
    let old = c.args.terms.now in
    let row = over.row in
    let parts = cut_at old.numbers.items row c.push_shares.new.numbers.items c.len-before.result
    over.is (omega (arith, c.len-before.ensures, old.numbers.ok.0)) in
    let left : c.truncate.new.self.items ≡ old.numbers.items =
    c.truncate.ensures.items ∙ parts.0 in
    let none : (k : ℕ) → get_or row k (pos 0) ≡ pos 0 =
    rw (c.deref.ensures.value, parts.1) at (c.are_zero.ensures c.if-are_zero.true) in
    fitting_same (rows_of c.args.payoffs.now) rs c.args.nodes.now c.args.size c.in-Some.more old
    _ (record {
      head = record {
        demands = c.args.demands;
        den = c.in_ok-over.over.den;
        size = c.in_ok-over.over.size;
      };
      row = row;
    }) c.requires.alike (λ k less. (over.each k (pos 0) less).1) c.if-over-terms.false
    (omega (arith, c.in-Some.ensures)) (omega (arith, c.if-more-gt-LARGEST.false)) (refl, refl)
    (grind arith) before (same_terms old c.truncate.new.self left) none

pub returns-clause-fitting : goal.returns-clause-fitting
returns-clause-fitting c rs before =
    let over = c.in_ok-over.ensures in
    let after = c.in_ok-push_head.ensures in
    let old = c.args.terms.now in
    let f : Term = record {
      head = record { demands = c.args.demands; den = c.in_ok-over.over.den; size = 0 };
      row = over.row;
    } in
    let more = is_pushed old c.push_head.new.self f c.requires.order.0 over.one_each after.alike.0
    after.noted after.demands after.scaled
    (ap (λ (v : Vec ℤ Global). v.items) after.numbers ∙ over.is) in
    fitting_more (rows_of c.args.payoffs.now) rs c.args.nodes.now c.args.size c.in-Some.more old
    c.push_head.new.self (record {
      head = record f.head { size = c.in_ok-over.over.size };
      row = over.row;
    }) c.requires.alike (λ k less. (over.each k (pos 0) less).1) c.if-over-terms.false
    (omega (arith, c.in-Some.ensures)) (omega (arith, c.if-more-gt-LARGEST.false)) after.alike (
      more.shaped,
      ordered_more old c.push_head.new.self f more.pushed c.requires.order.1
          c.requires.ends,
    ) before more.pushed
