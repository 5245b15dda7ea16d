use Rattle.std.proofs.Common.{◌≡◌, false}
use Rattle.gf_jobs.proofs.jobs.session.Session.perform_job.Goals as goal

pub returns-in-Canon-clause-performed : goal.returns-in-Canon-clause-performed
returns-in-Canon-clause-performed g c = rw c.in-Canon.is c.perform_one.ensures.performed

pub returns-in-Check-clause-performed : goal.returns-in-Check-clause-performed
returns-in-Check-clause-performed g c = rw c.in-Check.is c.perform_one-in-Check.ensures.performed

pub returns-in-Table-clause-performed : goal.returns-in-Table-clause-performed
returns-in-Table-clause-performed g c =
    rw (c.in-Table.is, c.if-reduced.true) c.perform_one-in-Table.ensures.performed

pub returns-in-Table-2-clause-performed : goal.returns-in-Table-2-clause-performed
returns-in-Table-2-clause-performed g c =
    let pure : c.in-Table-2.reduced ≡ false = cc in
    rw (c.in-Table-2.is, pure) c.perform_one-in-Table-2.ensures.performed

pub returns-in-Same-clause-performed : goal.returns-in-Same-clause-performed
returns-in-Same-clause-performed g c = rw c.in-Same.is
    (rw (c.as_str.ensures.value, c.as_str-in-Same.ensures.value) at c.perform_same.ensures.performed)

pub returns-in-CheckCanon-clause-performed : goal.returns-in-CheckCanon-clause-performed
returns-in-CheckCanon-clause-performed g c = rw c.in-CheckCanon.is c.perform_all.ensures.performed

pub returns-in-WriteCanon-clause-performed : goal.returns-in-WriteCanon-clause-performed
returns-in-WriteCanon-clause-performed g c = rw c.in-WriteCanon.is c.perform_all-in-WriteCanon.ensures.performed

pub returns-in-CheckAll-clause-performed : goal.returns-in-CheckAll-clause-performed
returns-in-CheckAll-clause-performed g c = rw c.in-CheckAll.is c.perform_all-in-CheckAll.ensures.performed

pub returns-in-Hash-clause-performed : goal.returns-in-Hash-clause-performed
returns-in-Hash-clause-performed g c = rw c.in-Hash.is c.perform_all-in-Hash.ensures.performed

pub returns-in-Duplicates-clause-performed : goal.returns-in-Duplicates-clause-performed
returns-in-Duplicates-clause-performed g c = rw c.in-Duplicates.is c.perform_all-in-Duplicates.ensures.performed
