use Rattle.gf_form.proofs.Common.{IsFirstWithout, asked_profiles, HasValues, arith, subst, Err, ◌+◌}
use Rattle.gf_form.proofs.Common.{◌≡◌, ap}
use Rattle.gf_form.proofs.lemmas.strategies.PickedProfiles.{numbered_at}
use Rattle.gf_form.proofs.lemmas.rows.PairRows.{next_written}
use Rattle.gf_form.proofs.lemmas.form.Forms.{first_without}
use Rattle.gf_form.proofs.rows.written.Written.push_walked.Goals as goal

pub returns-in-Ok-clause-written : goal.returns-in-Ok-clause-written
returns-in-Ok-clause-written c =
    next_written c.args.asked.now c.args.before c.args.self.now _ c.in-Ok.row.items
    c.requires.within c.in-Ok.ensures.payoffs c.in-Ok.ensures.values
    (cc (
      c.in_ok-extend_from_slice-in-Ok.ensures.items,
      c.in_ok-nodes.ensures.rows,
      c.deref.ensures.value,
    ))
    c.in_ok-nodes.ensures.nodes c.requires.written

pub returns-in-Err-Overflow-clause-refused : goal.returns-in-Err-Overflow-clause-refused
returns-in-Err-Overflow-clause-refused c = (
  (λ is. cc),
  λ position is.
      let g = c.args.asked.now.game.now in
      let before = c.args.before in
      let all = asked_profiles c.args.asked.now in
      let at = numbered_at g c.args.asked.now.numbers.now before c.requires.within in
      let same : before + 1 ≡ position = cc in
      subst (IsFirstWithout (HasValues g) all) same
      (first_without (HasValues g) all before at.0 c.requires.written.values
      (λ values. c.in-Err-Overflow.ensures.overflow (ap Err c.in-Err-Overflow.field-0-is)
      (subst (HasValues g) at.1 values))),
)

pub overflow_add-result : goal.overflow_add-result
overflow_add-result c = record { fits = omega (arith, c.requires.within, c.requires.asked.few) }
