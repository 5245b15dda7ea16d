use Rattle.gf_canon.proofs.Common.{◌≡◌, ap, ◌∙◌, canonical_text, extensive, file_by}
use Rattle.gf_canon.proofs.lemmas.texts.ToldTexts.{told_is_canonical}
use Rattle.gf_canon.proofs.canonise.canonical_efg.Goals as goal

pub returns-clause-text : goal.returns-clause-text
returns-clause-text c =
    let g = c.in_ok-tell_efg.ensures.told in
    let kept = c.new-lines.result.names in record {
      file = extensive g.0;
      spelled = record { spelled = g.1; within = tt };
      is_text = c.of.ensures.rest
          ∙ told_is_canonical (λ lines. lines.text.items) (λ lines. lines.names ≡ kept) kept
          c.tell_efg.new.to g.0 g.2
          ∙ ap (λ names. canonical_text (file_by names (extensive g.0))) c.new-lines.ensures.names;
    }
