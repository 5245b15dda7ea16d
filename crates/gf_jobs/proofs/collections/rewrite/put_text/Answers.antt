use Rattle.std.proofs.Common.{refl}
use Rattle.gf_jobs.specs.Performs.{canonical, refused, replaced}
use Rattle.gf_jobs.proofs.Reported.{is_failed}
use Rattle.gf_jobs.proofs.collections.rewrite.put_text.Goals as goal

pub returns-in_err-are_canonical : goal.returns-in_err-are_canonical
returns-in_err-are_canonical g c =
    refused _ (is_failed _ _ c.from_residual.ensures.1) c.in_err-are_canonical.ensures refl

pub returns-then-branch : goal.returns-then-branch
returns-then-branch g c =
    canonical refl (rw c.if-branch.true at c.in_ok-are_canonical.ensures) refl

pub returns-in_err-answer : goal.returns-in_err-answer
returns-in_err-answer g c =
    refused _ (is_failed _ _ c.from_residual-in_err-answer.ensures.1) c.in_err-answer.ensures refl

pub returns : goal.returns
returns g c = replaced _ (rw c.if-branch.false at c.in_ok-are_canonical.ensures)
    c.in_ok-answer.ensures c.replace.ensures
