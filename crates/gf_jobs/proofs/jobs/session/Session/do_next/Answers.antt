use Rattle.std.proofs.Common.{Err, Ok, [], ◌++◌, ◌∷◌, refl, rules, true}
use Rattle.std.specs.Prelude.{◌≡◌, ◌≢◌}
use Rattle.gf_jobs.specs.Performs.{opened}
use Rattle.gf_jobs.specs.Reports.{name_of}
use Rattle.gf_run.specs.declared.fault.RunFault.{RunFault}
use Rattle.gf_jobs.proofs.jobs.session.Session.do_next.Goals as goal

pub returns-in-Ok-run_line-clause-next : goal.returns-in-Ok-run_line-clause-next
returns-in-Ok-run_line-clause-next g c = λ files is. (
  files,
  is,
  rw c.in-Lines.is (opened (Ok c.in-Ok-run_line.good) _ _ _ c.in-Ok.ensures.0 c.in-Ok.ensures.1
      (refl, refl, rw c.name_of-name.ensures at c.in-Ok-run_line.ensures)
      (λ line is same. absurd cc, (c.answer_status.ensures, refl))),
)

pub returns-then-eq-clause-next : goal.returns-then-eq-clause-next
returns-then-eq-clause-next g c = λ files is.
    let same : c.in-Err-run_line.fault ≡ RunFault.Write = search rules in (
      files,
      rw c.in-Lines.is (opened (Err RunFault.Write) _ _ _ c.in-Ok.ensures.0 c.in-Ok.ensures.1
          (refl, refl, rw (c.name_of-name.ensures, same) at c.in-Err-run_line.ensures) (
            refl,
            rw (c.name_of-name.ensures, c.bytes-kept.ensures, c.failed_run-failed.ensures, same) at
                c.report_explained.ensures,
          )),
    )

pub returns-in-Lines-clause-next : goal.returns-in-Lines-clause-next
returns-in-Lines-clause-next g c = λ files is.
    let other : c.in-Err-run_line.fault ≢ RunFault.Write = search rules in (
      files,
      is,
      rw c.in-Lines.is (opened (Err c.in-Err-run_line.fault) _ _ _ c.in-Ok.ensures.0
          c.in-Ok.ensures.1
          (refl, refl, rw c.name_of-name.ensures at c.in-Err-run_line.ensures) (
            λ line is same.
                let is : c.in-Err-run_line.fault ≡ RunFault.Write = cc in absurd (other is),
            rw (
              c.name_of-name.ensures,
              c.bytes-kept.ensures,
              c.failed_run-failed.ensures,
            ) at c.report_named-in-Err-run_line.ensures,
          )),
    )

pub returns-in-Ok-rewrite-clause-next : goal.returns-in-Ok-rewrite-clause-next
returns-in-Ok-rewrite-clause-next g c = λ files is. (
  files,
  is,
  rw c.in-Rewrites.is (opened (Ok true) _ _ _ c.in-Ok.ensures.0 c.in-Ok.ensures.1
      (refl, c.in-Ok-rewrite.ensures) (λ line is same. absurd cc, (refl, refl))),
)

pub returns-in-Rewrites-clause-next : goal.returns-in-Rewrites-clause-next
returns-in-Rewrites-clause-next g c = λ files is. (
  files,
  is,
  rw c.in-Rewrites.is (opened (Err c.in-Err-rewrite.failed.fault) _ _ _ c.in-Ok.ensures.0
      c.in-Ok.ensures.1 (refl, c.in-Err-rewrite.ensures) (
        λ line is same. absurd cc,
        rw (c.name_of-name.ensures, c.bytes.ensures) at
            c.report_named-in-Err-rewrite.ensures,
      )),
)

pub returns-in-Ok-push-clause-next : goal.returns-in-Ok-push-clause-next
returns-in-Ok-push-clause-next g c = λ files is. (
  _,
  rw c.name_of-name.ensures at c.in-Ok-push.ensures files is,
  rw c.in-Duplicates.is (opened (Ok true) _ _ _ c.in-Ok.ensures.0 c.in-Ok.ensures.1
      (refl, refl, (Ok c.in-Ok-read_hash.hash, c.in-Ok-read_hash.ensures, (refl, refl)))
      (λ line is same. absurd cc, (refl, refl))),
)

pub returns-in-Ok-read_hash-clause-next : goal.returns-in-Ok-read_hash-clause-next
returns-in-Ok-read_hash-clause-next g c = λ files is. (
  files ++ record { name = name_of c.args.file.now; hash = c.in-Ok-read_hash.hash } ∷ [],
  rw c.in-Duplicates.is (opened (Ok true) _ _ _ c.in-Ok.ensures.0 c.in-Ok.ensures.1
      (refl, refl, (Ok c.in-Ok-read_hash.hash, c.in-Ok-read_hash.ensures, (refl, refl)))
      (refl, (c.report.ensures.status, (_, refl, c.report.ensures.sent)))),
)

pub returns-clause-next : goal.returns-clause-next
returns-clause-next g c = λ files is. (
  files,
  is,
  rw c.in-Duplicates.is (opened (Err c.in-Err-read_hash.fault) _ _ _ c.in-Ok.ensures.0
      c.in-Ok.ensures.1
      (refl, refl, (Err c.in-Err-read_hash.fault, c.in-Err-read_hash.ensures, (refl, refl))) (
        λ line is same. absurd cc,
        rw (
          c.name_of-name.ensures,
          c.bytes-in-Err-read_hash.ensures,
          c.failed_run-failed-in-Err-read_hash.ensures,
        ) at c.report_named-in-Err-read_hash.ensures,
      )),
)
