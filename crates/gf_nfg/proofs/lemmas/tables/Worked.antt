-- Worked tables, each computed: the machine of the reader reads their files to them; and their
-- texts.
use Rattle.gf_nfg.proofs.Common.{◌≡◌, ℕ, map, Ok, Err, refl, Gap, Why, found, run, start, Table}
use Rattle.gf_nfg.proofs.Common.{List, arith, Token, Content, table_of, selten, number_of, index_of}
use Rattle.gf_nfg.proofs.Common.{Result, table_text, selten_text, no_players, gcd_within, lowest_of}
use Rattle.gf_nfg.proofs.Common.{SpellsTable, selten_by_counts, selten_by_outcomes, no_players_text}
use Rattle.std.specs.Fmt.{digits}
use Rattle.gf_fraction.specs.NumberText.{number_text}
use Rattle.gf_token.specs.Offered.{lex}
use Rattle.gf_nfg.proofs.lemmas.runs.Sentence.{sentence_found}

-- ---- texts

pub text_of_selten : table_text selten ≡ selten_text
unfolding digits number_text
text_of_selten = refl

pub text_of_no_players : table_text no_players ≡ no_players_text
text_of_no_players = refl

-- ---- files

abbrev table_read : Result Content Why → Result Table Why
table_read (Ok c) = Ok (table_of c)
table_read (Err why) = Err why

abbrev ok_table : Table → Result Table Why
ok_table t = Ok t

abbrev tokens_in : List ℕ → List Token
tokens_in bytes = map (λ l. l.token) (lex Gap 0 bytes)

meant : (bytes : List ℕ) (t : Table) → table_read (run start (tokens_in bytes)) ≡ ok_table t
    → SpellsTable bytes t
meant bytes t means = grind (arith, found, sentence_found)

pub by_counts : SpellsTable selten_by_counts selten
unfolding lex digits index_of number_of lowest_of gcd_within
by_counts = meant selten_by_counts selten refl

pub by_outcomes : SpellsTable selten_by_outcomes selten
unfolding lex digits index_of number_of lowest_of gcd_within
by_outcomes = meant selten_by_outcomes selten refl

pub ruleset worked_tables = (by_counts, by_outcomes, text_of_selten, text_of_no_players)
