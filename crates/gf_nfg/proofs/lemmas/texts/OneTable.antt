-- The canonical text of a table spells that table, so different tables have different texts.
use Rattle.gf_nfg.proofs.Common.{◌≡◌, ℕ, List, [], ◌∷◌, ◌++◌, map, refl, ap, inl, inr, arith}
use Rattle.gf_nfg.proofs.Common.{◌↔◌, codes, AllByRecursion, flat_map, IsLabel, Token, Text, Bare}
use Rattle.gf_nfg.proofs.Common.{Each, braced, number_spelled, Ratio, IsFraction, written_is_read}
use Rattle.gf_nfg.proofs.Common.{all_weaker, all_parts, all_lists, Table, IsTable, IsSpellable}
use Rattle.gf_nfg.proofs.Common.{rows, IsLabelList, IsPayoffBody, Sentence, row_text}
use Rattle.gf_nfg.proofs.Common.{list_text, quoted, table_text, SpellsTable, SameTable}
use Rattle.gf_token.proofs.Offered.{each_group, Tells, both, each_field, empty, fields, label}
use Rattle.gf_token.proofs.Offered.{labels, line, lines, list, says_list, says_word, word}
use Rattle.gf_fraction.specs.NumberText.{number_text}
use Rattle.gf_nfg.proofs.lemmas.places.Led.{spells_one_table}
use Rattle.gf_nfg.proofs.lemmas.tables.Spelled.{spelled_is_spellable}
use Rattle.gf_nfg.proofs.lemmas.tables.Same.{same_is_equal}

-- ---- lists of labels

abbrev names_tokens : List (List ℕ) → List Token
names_tokens names = braced (map Text names)

abbrev strategies_tokens : List (List (List ℕ)) → List Token
strategies_tokens strategies = flat_map names_tokens strategies

-- ---- rows of payoffs

abbrev payoff_tokens : Ratio → List Token
payoff_tokens r = Bare (number_text r) ∷ []

abbrev row_tokens : List Ratio → List Token
row_tokens row = flat_map payoff_tokens row

is_rows : (rs : List (List Ratio)) → AllByRecursion (λ row. AllByRecursion IsFraction row) rs
    → IsPayoffBody (flat_map row_tokens rs) rs
is_rows rs h = grind (arith, each_group, all_weaker, written_is_read)

-- ---- the table

abbrev table_tokens : Table → List Token
table_tokens t = (Bare (codes "NFG") ∷ Bare (codes "1") ∷ Bare (codes "R") ∷ Text t.title
    ∷ names_tokens t.players) ++ (braced (strategies_tokens t.strategies)
    ++ ((Text t.comment ∷ []) ++ flat_map row_tokens (rows t)))

tells_table : (t : Table) → IsSpellable t → Tells (table_text t) (table_tokens t)
tells_table t h =
    let spelled = h.labels_spelled in
    let names = all_parts IsLabel t.players (flat_map (λ ls. ls) t.strategies) spelled.1.1 in
    let heading = fields (both (word (codes "NFG") (refl, (refl, (refl, tt))))
    (both (word (codes "1") (refl, tt)) (both (word (codes "R") (refl, tt))
    (both (label t.title spelled.0) (list (labels t.players names.0)))))) in
    let strategies = list (each_field (λ own. AllByRecursion IsLabel own)
    (λ own. list_text (map quoted own)) names_tokens
    (λ own is. says_list (labels own is)) t.strategies (all_lists IsLabel t.strategies names.1)) in
    let payoffs = each_field (λ row. AllByRecursion IsFraction row) row_text row_tokens
    (λ row is. line (each_field IsFraction number_text payoff_tokens
    (λ r f. says_word (number_text r) (number_spelled r f)) row is))
    (rows t) h.payoffs_are_fractions in
    lines (both heading (both strategies (both (label t.comment spelled.1.0)
    (both empty payoffs))))

are_label_lists : (strategies : List (List (List ℕ)))
    → Each IsLabelList (strategies_tokens strategies) strategies
are_label_lists [] = refl
are_label_lists (names ∷ strategies) = grind (arith, are_label_lists strategies)

is_sentence : (t : Table) → IsTable t → IsSpellable t → Sentence (table_tokens t) t
is_sentence t table h = record {
  letter = codes "R";
  strategies = braced (strategies_tokens t.strategies);
  comment = Text t.comment ∷ [];
  body = flat_map row_tokens (rows t);
  parts = refl;
  is_letter = inl refl;
  is_strategies = (strategies_tokens t.strategies, refl, inr (are_label_lists t.strategies));
  is_comment = inr refl;
  is_body = inl (is_rows (rows t) h.payoffs_are_fractions);
  is_table = table;
}

pub text_reads_back : (t : Table) → IsTable t → IsSpellable t → SpellsTable (table_text t) t
text_reads_back t table h = grind (arith, tells_table t h 0, is_sentence)

pub tables_of_files : (t : Table)
    → ((bytes : List ℕ) × SpellsTable bytes t) ↔ (IsTable t × IsSpellable t)
tables_of_files t =
    (λ h. spelled_is_spellable h.0 t h.1, λ h. (table_text t, text_reads_back t h.0 h.1))

pub text_again : (bytes : List ℕ) (t u : Table) → SpellsTable bytes t → SpellsTable (table_text t) u
    → table_text u ≡ table_text t
text_again bytes t u h k =
    let s = spelled_is_spellable bytes t h in
    ap table_text (spells_one_table (table_text t) u t k (text_reads_back t s.0 s.1))

pub equal_texts : (t u : Table) → IsTable t → IsSpellable t → IsTable u → IsSpellable u
    → (table_text t ≡ table_text u) ↔ SameTable t u
equal_texts t u ht st hu su =
    grind (arith, same_is_equal, text_reads_back, spells_one_table (table_text u) t u)

pub equal_texts_of_files : (a b : List ℕ) (t u : Table) → SpellsTable a t → SpellsTable b u
    → (table_text t ≡ table_text u) ↔ SameTable t u
equal_texts_of_files a b t u h k =
    grind (arith, spelled_is_spellable a t h, spelled_is_spellable b u k, equal_texts)
