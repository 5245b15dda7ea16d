use Rattle.std.proofs.Common.{Global, IsUtf8, Vec, ap, append-nil, subst, sym, ◌++◌, ◌∙◌, ℕ}
use Rattle.std.proofs.lemmas.Bool.{false≢true}
use Rattle.std.proofs.lemmas.List.Elements.{same_from_all_zip}
use Rattle.std.specs.Str.Lossy.{utf8_lossy}
use Rattle.gf_jobs.proofs.collections.folders.file_in.Goals as goal

pub returns-in_ok-shown-in-Err : goal.returns-in_ok-shown-in-Err
returns-in_ok-shown-in-Err c =
    let are = same_from_all_zip _ _ _ c.in_ok-concat.ensures.ok (λ x y is. cc)
    ∙ ap (λ l. c.args.folder.now ++ l) (append-nil c.args.name.now) in (
      λ is. false≢true (c.in-Err.ensures.succeeds (subst IsUtf8 (sym are) is)),
      c.in_ok-shown-in-Err.ensures.lossy ∙ ap utf8_lossy (c.as_bytes.ensures
          ∙ ap (λ (v : Vec ℕ Global). v.items) c.in-Err.ensures.err ∙ are),
    )
