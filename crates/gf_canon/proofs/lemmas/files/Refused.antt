-- How a file is refused, by the refusal of its format.
use Rattle.gf_canon.proofs.Common.{IsWithoutFormat, TooManyProfiles, BeginsWithWord, IsRefusedWith}
use Rattle.gf_canon.proofs.Common.{SpellsWithin, same_tokens, map-append, extensive, strategic, Why}
use Rattle.gf_canon.proofs.Common.{GameFile, IsJudged, Memory, Result, Fault, IfErr, arith, codes}
use Rattle.gf_canon.proofs.Common.{rules, List, Span, refl, sym, ◌≡◌, ℕ}
use Rattle.gf_token.proofs.Offered.{no_file}
use Rattle.gf_canon.specs.Judgement.IsJudged.{of_extensive, of_strategic, of_neither}
use Rattle.gf_canon.specs.declared.kind.FileKind.{FileKind}
use Rattle.gf_canon.specs.inner.KindWord.{word_of}
use Rattle.gf_canon.proofs.lemmas.files.EitherFormat.{placed}
use Rattle.gf_canon.proofs.lemmas.files.Formats.{none_offending, named_by_word, two_words}
use Rattle.gf_nfg.proofs.Offered.{only_memory as only_memory_for_table}
use Rattle.gf_nfg.specs.Judgement as strategic_file
use Rattle.gf_tree.specs.Judgement as extensive_file

-- bytes that mean a file are refused for lack of memory alone
pub only_memory : (why : Why) (bytes : List ℕ) (span : Span) (x : GameFile)
    → IsJudged why bytes span → SpellsWithin bytes x → why ≡ Memory
only_memory Memory bytes span x j h = refl
only_memory TooManyProfiles bytes span x (of_extensive named j) h = absurd j.reason.3.0
only_memory TooManyProfiles bytes span (strategic t) (of_strategic named j) h =
    only_memory_for_table TooManyProfiles bytes span t j h.spelled h.within
only_memory TooManyProfiles bytes span (extensive g) (of_strategic named j) h =
    absurd (two_words (sym (named_by_word (codes "NFG") bytes (extensive g) named h.spelled)))
only_memory TooManyProfiles bytes span x (of_neither j) h =
    absurd (grind (arith, same_tokens, no_file, map-append))
only_memory why bytes span x j h =
    absurd (none_offending bytes span x (placed why bytes span j) h.spelled)

pub refused_with : (bytes : List ℕ) (fault : Fault) → IsJudged fault.why bytes fault.span
    → IsRefusedWith bytes fault
refused_with bytes fault j = search (rules, placed, only_memory)

pub refused_at_first : (bytes : List ℕ) (fault : Fault)
    → IsWithoutFormat fault.why bytes fault.span → IsRefusedWith bytes fault
refused_at_first bytes fault j = refused_with bytes fault (of_neither j)

pub refused_game : {A : Type 0} (bytes : List ℕ) (r : Result A Fault) (kind : FileKind)
    → kind ≡ FileKind.Tree → BeginsWithWord (word_of kind) bytes
    → IfErr r (λ fault. extensive_file.IsJudged fault.why bytes fault.span)
    → IfErr r (IsRefusedWith bytes)
refused_game bytes r kind is named judged = grind (arith, refused_with)

pub refused_table : {A : Type 0} (bytes : List ℕ) (r : Result A Fault) (kind : FileKind)
    → kind ≡ FileKind.Strategic → BeginsWithWord (word_of kind) bytes
    → IfErr r (λ fault. strategic_file.IsJudged fault.why bytes fault.span)
    → IfErr r (IsRefusedWith bytes)
refused_table bytes r kind is named judged = grind (arith, refused_with)

pub ruleset refusals = (refused_game, refused_table)
