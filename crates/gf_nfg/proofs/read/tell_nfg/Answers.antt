use Rattle.gf_nfg.proofs.Common.{◌∙◌, ap, Answer, content_told, arith}
use Rattle.gf_nfg.proofs.lemmas.places.Judged.{answer_read, heard_begun, judged}
use Rattle.gf_nfg.proofs.lemmas.tables.Meaning.{within_limit}
use Rattle.gf_nfg.proofs.lemmas.tables.Told.{told_table}
use Rattle.gf_nfg.proofs.read.tell_nfg.Goals as goal

pub returns-clause-told : goal.returns-clause-told
returns-clause-told g c =
    let n = c.new-reader.ensures in
    let h = c.in_ok-tell.ensures in
    let read = answer_read c.args.input.now c.new-reader.result.tokens.ahead (content_told h.told)
    n.spelled
    (ap (λ (a : Answer). a.machine)
    (heard_begun c.new-reader.result c.args.input.now n.input n.content) ∙ h.whole) in
    told_table _ _ _ _ h.told h.same (record {
      spelled = (read.0, read.1, read.2.sentence);
      complete = read.2.complete;
      within = within_limit _ read.2.complete h.told.heading.profiles.within;
    }) h.unnumbered h.holding

pub returns-in_err-tell : goal.returns-in_err-tell
returns-in_err-tell g c = grind (arith, judged)
