use Rattle.gf_form.proofs.Common.{common_steps, rows_of, arith, sym, ◌∙◌}
use Rattle.gf_form.proofs.lemmas.rows.PayingTerms.{settle_all}
use Rattle.gf_form.proofs.rows.profile.profile_rows.Goals as goal

pub push_rows-requires-clause-settled : goal.push_rows-requires-clause-settled
push_rows-requires-clause-settled c =
    let d = c.in_ok-digits.digits in
    let is_game = c.players-players.ensures.is_game in
    let digits = c.in_ok-digits.ensures c.args.game.now c.requires.counts in
    let terms = c.in_ok-terms.ensures in
    rw c.deref.ensures.value (record {
      are_terms = (terms.order, terms.players);
      steps = digits.steps;
      within = digits.within;
      count = c.requires.counts.profiles ∙ sym digits.as_many;
      settles = λ i from less.
          settle_all c.args.game.now is_game c.players-players.ensures.spellable
          (rows_of c.in_ok-payoffs.payoffs) c.in_ok-payoffs.ensures c.args.numbers.now
          c.requires.numbers d digits c.in_ok-terms.terms terms.listed i (omega (arith, less));
    })

pub new-requires-2 : goal.new-requires-2
new-requires-2 c = grind (arith, common_steps)

pub returns-clause-rows : goal.returns-clause-rows
returns-clause-rows c = grind (arith, common_steps)

pub returns-clause-values : goal.returns-clause-values
returns-clause-values c = grind (arith, common_steps)

pub new-requires-3 : goal.new-requires-3
new-requires-3 c = grind (arith, common_steps)

pub push_rows-requires-clause-due : goal.push_rows-requires-clause-due
push_rows-requires-clause-due c = grind arith

pub returns-in_err-push_rows-clause-overflow : goal.returns-in_err-push_rows-clause-overflow
returns-in_err-push_rows-clause-overflow c = grind arith
