use Rattle.gf_nfg.proofs.Common.{arith, refl, Memory, content_of, table_of}
use Rattle.gf_nfg.proofs.lemmas.places.Judged.{memory_at_end}
use Rattle.gf_nfg.proofs.lemmas.texts.Told.{outcomes_begin, payoffs_written, text_with}
use Rattle.gf_nfg.proofs.text.canonical.canonical_nfg.Goals as goal

pub returns-in-Payoffs-clause-text : goal.returns-in-Payoffs-clause-text
returns-in-Payoffs-clause-text c =
    let told = rw c.new-text.ensures.names at c.in_ok-heading.ensures.told in
    grind (arith, payoffs_written _ _ c.args.names c.tell_nfg.new.to c.in-Payoffs.is told)

pub returns-in-Ok-clause-text : goal.returns-in-Ok-clause-text
returns-in-Ok-clause-text c =
    let content = content_of c.in_ok-heading.heading c.tell_nfg.new.to.kept in
    let told = rw c.new-text.ensures.names at c.in_ok-heading.ensures.told in
    let begun = outcomes_begin _ _ c.args.names c.tell_nfg.new.to c.in-Outcomes.is told in (
      table_of content,
      begun.means.spelled,
      begun.means.within,
      grind (arith, text_with c.args.names content, begun.means.complete),
    )

pub returns-clause-judged : goal.returns-clause-judged
returns-clause-judged c =
    let told = rw c.new-text.ensures.names at c.in_ok-heading.ensures.told in
    let means = (outcomes_begin _ _ c.args.names c.tell_nfg.new.to c.in-Outcomes.is told).means in
    memory_at_end _ _ c.at_end.result Memory means.spelled means.within c.at_end.ensures refl
