use Rattle.gf_form.proofs.Common.{sym}
use Rattle.gf_form.proofs.rows.terms.Terms.scale_between.Goals as goal

pub returns-in-Some : goal.returns-in-Some
returns-in-Some c = λ _. rw (sym c.head.ensures, sym c.head-2.ensures) c.in-Some.ensures
