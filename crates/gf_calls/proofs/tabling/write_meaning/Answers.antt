use Rattle.std.proofs.Common.{refl, subst}
use Rattle.gf_canon.specs.GameFile.GameFile.{strategic}
use Rattle.gf_canon.specs.CanonicalText.{SpellsWithin}
use Rattle.gf_canon.specs.MeaningOf.{file_of}
use Rattle.gf_canon.specs.declared.meaning.Meaning.{Meaning}
use Rattle.gf_calls.proofs.TableAnswers.{made_answers}
use Rattle.gf_calls.proofs.tabling.write_meaning.Goals as goal

pub returns-in-Tree : goal.returns-in-Tree
returns-in-Tree c bytes numbers spelled = c.write_form.ensures bytes numbers
    (subst (λ (meaning : Meaning). SpellsWithin bytes (file_of meaning)) c.in-Tree.is spelled)

pub returns-in-Table : goal.returns-in-Table
returns-in-Table c bytes numbers spelled =
    made_answers c.args.strategies bytes (strategic c.in-Table.table) c.in-Table.table _ _ _
    (subst (λ (meaning : Meaning). SpellsWithin bytes (file_of meaning)) c.in-Table.is spelled)
    refl c.write_text.ensures refl
