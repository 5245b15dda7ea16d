-- The command line is one of which `clap` says what it finds in any words.
use Rattle.std.proofs.Common.{◌≡◌, ◌∙◌, List, [], ◌∷◌, ap, codes, refl}
use Rattle.std.specs.Prelude.{IfErr, IfOk, MatchResult, Result, Ok, Err, false, true}
use Rattle.clap.proofs.OnLiterals.{clap_on_literals}
use Rattle.clap.proofs.WalkLemmas.{both}
use Rattle.clap.specs.Matches.{found_of}
use Rattle.clap.specs.Simple.{App, HasMatchesOf, is_simple, matches_of, subcommand_of}
use Rattle.clap.specs.Simple.{subcommand_rows_of}
use Rattle.clap.specs.Takes.{takes}
use Rattle.clap.specs.Walk.{Text, rows_of}
use Rattle.clap.specs.declared.parser.matches.ArgMatches.{ArgMatches}
use Rattle.gf_words.specs.CommandLine.{IsRequestIn, are_taken, program}
use Rattle.gf_words.specs.Request.{IsRequestOf, request_fits}
use Rattle.gf_words.specs.declared.fault.WordsFault.{WordsFault}
use Rattle.gf_words.specs.declared.fault.WordsFault.TheVariants.{Memory}
use Rattle.gf_words.specs.declared.job.Request.{Request}

program_is_simple : is_simple program ≡ true
unfolding clap_on_literals
program_is_simple = refl

-- what is asked by the matches of a parse is asked by its words, and fits together if these are
-- taken
pub asked_in : (app : App) (words : List Text) (matches : ArgMatches)
    (r : Result Request WordsFault) → app ≡ program → HasMatchesOf app words matches
    → MatchResult r (IsRequestOf (rows_of (found_of matches)) (subcommand_rows_of matches))
    (λ fault. request_fits (rows_of (found_of matches)) (subcommand_rows_of matches) ≡ true
    → fault ≡ Memory)
    → IfOk r (IsRequestIn words) × (are_taken words ≡ true → IfErr r (λ fault. fault ≡ Memory))
asked_in app words matches r is finds asked =
    let found = finds (ap is_simple is ∙ program_is_simple) in
    let rows : rows_of (found_of matches) ≡ matches_of program words =
    found.0 ∙ ap (λ (a : App). matches_of a words) is in
    let command : subcommand_rows_of matches ≡ subcommand_of program words =
    found.1 ∙ ap (λ (a : App). subcommand_of a words) is in
    by r (rw (rows, command) at asked)
  where
    by : (r : Result Request WordsFault)
        → MatchResult r (IsRequestOf (matches_of program words) (subcommand_of program words))
        (λ fault. request_fits (matches_of program words) (subcommand_of program words) ≡ true
        → fault ≡ Memory)
        → IfOk r (IsRequestIn words) × (are_taken words ≡ true → IfErr r (λ fault. fault ≡ Memory))
    by (Ok request) asked = (asked, λ taken. tt)
    by (Err fault) wrong = (tt, λ taken. wrong (both _ _ taken).1)

pub taken_by_clap : (words : List Text) → are_taken words ≡ true → takes program words ≡ true
taken_by_clap words taken = (both _ _ taken).0

-- ---- worked words

no_words : are_taken [] ≡ true
unfolding clap_on_literals
no_words = refl

of_canon : are_taken (codes "canon" ∷ codes "--no-names" ∷ codes "a.efg" ∷ codes "--explain" ∷ [])
    ≡ true
unfolding clap_on_literals
of_canon = refl

of_check : are_taken (codes "check" ∷ codes "--explain" ∷ codes "a.efg" ∷ codes "b.efg" ∷ []) ≡ true
unfolding clap_on_literals
of_check = refl

of_table : are_taken (codes "table" ∷ codes "--reduced" ∷ []) ≡ true
unfolding clap_on_literals
of_table = refl

of_canon_check : are_taken (codes "canon" ∷ codes "--check" ∷ codes "a.efg" ∷ codes "b" ∷ []) ≡ true
unfolding clap_on_literals
of_canon_check = refl

of_two_texts : are_taken (codes "canon" ∷ codes "a.efg" ∷ codes "b.efg" ∷ []) ≡ false
unfolding clap_on_literals
of_two_texts = refl

of_writing_to_nothing : are_taken (codes "canon" ∷ codes "--write" ∷ codes "-" ∷ []) ≡ false
unfolding clap_on_literals
of_writing_to_nothing = refl

of_another_command : are_taken (codes "check" ∷ codes "--reduced" ∷ []) ≡ false
unfolding clap_on_literals
of_another_command = refl
