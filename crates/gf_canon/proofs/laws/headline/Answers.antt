use Rattle.gf_canon.proofs.Common.{canonical_twice, canonical_text, arith, Kept, refl, inl, inr}
use Rattle.gf_canon.proofs.lemmas.files.Judged.{text_is}
use Rattle.gf_canon.proofs.lemmas.files.Refused.{refused_with, only_memory}
use Rattle.gf_canon.proofs.lemmas.files.RefusedOnce.{refused_once, answered}
use Rattle.gf_canon.proofs.lemmas.files.Texts.{canonical_reads_back, spells_one_file, is_game_file}
use Rattle.gf_canon.proofs.lemmas.texts.ByNames.{equal_texts_by}
use Rattle.gf_canon.proofs.laws.headline.Goals as goal

pub returns-clause-text_or_refusal : goal.returns-clause-text_or_refusal
returns-clause-text_or_refusal c = λ bytes. elim (answered bytes) [
  | inl h ↦ inl (canonical_text h.0, record { file = h.0; spelled = h.1; is_text = refl })
  | inr refused ↦ inr refused
]

pub returns-clause-never_both : goal.returns-clause-never_both
returns-clause-never_both c =
    λ bytes text why span p h. h.0 (only_memory why bytes span p.file h.1 p.spelled)

pub returns-clause-one_text : goal.returns-clause-one_text
returns-clause-one_text c =
    λ bytes text other p q. cc (text_is Kept bytes text q.file p q.spelled.spelled)

pub returns-clause-one_refusal : goal.returns-clause-one_refusal
returns-clause-one_refusal c = refused_once

pub returns-clause-same_exactly : goal.returns-clause-same_exactly
returns-clause-same_exactly c = λ a b x y of_x of_y. grind (arith, spells_one_file)

pub returns-clause-equal_exactly : goal.returns-clause-equal_exactly
returns-clause-equal_exactly c = λ a b s t p q.
    let texts = equal_texts_by Kept a b s t p q p.file q.file p.spelled q.spelled in
    let means = returns-clause-same_exactly c a b p.file q.file p.spelled q.spelled in grind arith

pub returns-clause-reads_back : goal.returns-clause-reads_back
returns-clause-reads_back c = λ bytes x h.
    record { spelled = canonical_reads_back bytes x h.spelled; within = grind (arith, h.within) }

pub returns-clause-own_text : goal.returns-clause-own_text
returns-clause-own_text c =
    λ bytes text p. grind (arith, returns-clause-reads_back c, canonical_twice, is_game_file)

pub returns-clause-placed : goal.returns-clause-placed
returns-clause-placed c =
    λ bytes why span h. refused_with bytes (record { span = span; why = why }) h.1
