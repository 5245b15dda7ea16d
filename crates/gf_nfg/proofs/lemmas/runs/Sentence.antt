-- A run of the machine that succeeds has read a sentence, and each sentence is read.
use Rattle.gf_nfg.proofs.Common
use Common.{AllByRecursion, counted_labels, strategies_end, IsOutcomeBody, strategies_of, IsComment}
use Common.{append_assoc, IsPayoffBody, with_comment, IsLabelList, HasPayoffs, Sentence}
use Common.{length-map, all_images, IsComplete, HasLabels, table_of, IsTable, IsCount, Opening, ◌≡◌}
use Common.{Closing, Content, rows_by, product, length, braced, row_of, finish, arith, subst, Token}
use Common.{Ratio, Table, start, ◌++◌, refl, Text, Each, rows, step, List, ◌∷◌, map, sym, ◌∙◌}
use Common.{inl, inr, ◌⊎◌, run, sum, ◌+◌, ◌*◌, ◌<◌, [], Ok, at, ℕ, p}
use Rattle.gf_nfg.proofs.lemmas.tables.Lists.{joined, length-joined_rows, length-counted_labels}
use Rattle.gf_nfg.proofs.lemmas.tables.Lists.{length-joined, product_above_zero, rows_again}
use Rattle.gf_nfg.proofs.lemmas.tables.Meaning.{is_table, rows-table_of, strategies_of-joined}
use Rattle.gf_nfg.proofs.lemmas.tables.Rows.{entries_again}
use Rattle.gf_nfg.proofs.lemmas.runs.Payoffs.{flat_found, flat_again, outcomes_in, outcomes_again}
use Rattle.gf_nfg.proofs.lemmas.runs.Payoffs.{choices_found, choices_again, rows_each, rows_joined}
use Rattle.gf_nfg.proofs.lemmas.runs.Payoffs.{outcomes_full, choices_pay, choices_chosen}
use Rattle.gf_nfg.proofs.lemmas.runs.Strategies.{heading_found, strategies_again, strategies_found}
use Rattle.gf_nfg.proofs.lemmas.runs.Strategies.{AllSome, heading_leads, heading_line, with_counts}
use Rattle.gf_nfg.proofs.lemmas.runs.Strategies.{IsGroup, Kind, StrategyLists, heading, labels_in}
use Rattle.gf_nfg.proofs.lemmas.tables.Profiles.{length-profiles}
use Rattle.gf_token.proofs.Offered.{run_after}

-- with the body
abbrev pub filled : Content → List Ratio → List ℕ → Content
filled c payoffs choices = record c { payoffs = payoffs; choices = choices }

-- the body of these rows, as the grammar has it
abbrev pub IsBody : ℕ → List Token → List (List Ratio) → Type 0
IsBody players body rs = IsPayoffBody body rs ⊎ IsOutcomeBody players body rs

pub rows_chosen : (c : Content) (choices : List ℕ) → 0 < length choices
    → rows_by c choices ≡ map (row_of (length c.players) c.payoffs) choices
rows_chosen c choices some = grind arith

-- ---- what was read

-- a body, after what is not of it
pub record Body (body : List Token) (c r : Content) : Type 0 where
  pub payoffs : List Ratio
  pub choices : List ℕ
  pub got : r ≡ filled c payoffs choices
  pub has_rows : HasPayoffs (filled c payoffs choices) choices
  pub is_body : IsBody (length c.players) body (rows_by (filled c payoffs choices) choices)

flat_body : (ts : List Token) (c r : Content)
    → run (at (p.FlatPayoffs (length c.players * c.profiles)) (filled c [] [])) ts ≡ Ok r
    → Body ts c r
flat_body ts c r e = grind (arith, flat_found, rows_each)

body_found : (ts : List Token) (c r : Content) → 0 < c.profiles
    → run (at (p.AfterComment (length c.players * c.profiles)) (filled c [] [])) ts ≡ Ok r
    → Body ts c r
body_found (Opening ∷ ts) c r above e =
    let h = outcomes_in (length ts + 1) ts 0 (filled c [] []) r (omega arith) e in
    let none : 0 + length h.2 ≡ length h.2 = omega arith in
    let k = choices_found h.1 c.profiles (length h.2) (filled c (joined h.2) []) r (cc h.5) in
    grind (arith, outcomes_full, length-joined_rows, joined, append_assoc, rows_chosen, choices_pay)
body_found ts c r above e = flat_body ts c r (grind arith)

-- the comment and the body, after what is neither
comment_found : (ts : List Token) (c r : Content) → 0 < c.profiles
    → run (strategies_end (filled (with_comment c []) [] [])) ts ≡ Ok r
    → (comment : List Token) × (body : List Token) × (said : List ℕ)
    × (ts ≡ comment ++ body) × IsComment comment said × Body body (with_comment c said) r
comment_found (Text said ∷ ts) c r above e =
    (Text said ∷ [], ts, said, refl, inr refl, body_found ts (with_comment c said) r above e)
comment_found ts c r above e =
    ([], ts, [], refl, inl (refl, refl), body_found ts (with_comment c []) r above e)

-- ---- each body is read

-- what is read where only payoffs are due is read where outcomes may come
outcomes_may_come : (ts : List Token) (due : ℕ) (c r : Content)
    → run (at (p.FlatPayoffs due) c) ts ≡ Ok r → run (at (p.AfterComment due) c) ts ≡ Ok r
outcomes_may_come (Opening ∷ ts) due c r e = absurd (grind arith)
outcomes_may_come ts due c r e = grind arith

-- and that is read where a comment may come
comment_may_come : (ts : List Token) (due : ℕ) (c r : Content)
    → run (at (p.AfterComment due) c) ts ≡ Ok r → run (at (p.AfterStrategies due) c) ts ≡ Ok r
comment_may_come (Text said ∷ ts) due c r e = absurd (grind arith)
comment_may_come ts due c r e = grind arith

-- a body is read to these rows
pub record Kept (body : List Token) (c : Content) (rs : List (List Ratio)) : Type 0 where
  pub payoffs : List Ratio
  pub choices : List ℕ
  pub means : rows_by (filled c payoffs choices) choices ≡ rs
  pub goes_on : run (at (p.AfterComment (length c.players * c.profiles)) (filled c [] [])) body
      ≡ Ok (filled c payoffs choices)

pub body_again : (body : List Token) (c : Content) (rs : List (List Ratio)) → 0 < c.profiles
    → AllByRecursion (λ row. length row ≡ length c.players) rs → length rs ≡ c.profiles
    → IsBody (length c.players) body rs → Kept body c rs
body_again body c rs above full count (inl each) =
    let all = rows_joined rs body each in
    let size = length-joined_rows (length c.players) rs full in
    let goes : run (at (p.FlatPayoffs (length c.players * c.profiles)) (filled c [] [])) body
    ≡ Ok (filled c (joined rs) []) =
    cc (size, count, flat_again (joined rs) body (filled c [] []) all) in
    grind (arith, rows_again, outcomes_may_come)
body_again body c rs above full count (inr b) =
    let paid = outcomes_full (length c.players) b.outcomes b.list b.listed in
    let o = choices_chosen (length c.players) b.outcomes paid rs b.numbers b.chosen in
    let some : 0 < length o.choices = omega (arith, o.count, count, above) in
    let d : Content = filled c (joined b.outcomes) [] in
    let goes : run (at (p.InOutcomes 0) (filled c [] [])) ((b.list ++ Closing ∷ []) ++ b.numbers)
    ≡ Ok (filled c (joined b.outcomes) o.choices) =
    let list = outcomes_again b.outcomes b.list b.numbers 0 (filled c [] []) b.listed in
    let none : 0 + length b.outcomes ≡ length b.outcomes = omega arith in
    let numbers = choices_again o.choices b.numbers (length b.outcomes) d o.each o.known in
    cc (append_assoc b.list (Closing ∷ []) b.numbers, list, none, o.count, count, numbers) in
    record {
      payoffs = joined b.outcomes;
      choices = o.choices;
      means = rows_chosen (filled c (joined b.outcomes) o.choices) o.choices some ∙ o.rows;
      goes_on = rw b.parts goes;
    }

-- ---- the strategies

either_kind : (k : Kind) (inner : List Token) (strategies : StrategyLists)
    → Each (IsGroup k) inner strategies
    → Each IsCount inner strategies ⊎ Each IsLabelList inner strategies
either_kind k inner strategies h = grind arith

pub kind_of : (inner : List Token) (strategies : StrategyLists)
    → Each IsCount inner strategies ⊎ Each IsLabelList inner strategies
    → (k : Kind) × Each (IsGroup k) inner strategies
kind_of inner strategies h = grind arith

counts_mean : (strategies : StrategyLists) (inner : List Token) → Each IsCount inner strategies
    → map counted_labels (map length strategies) ≡ strategies
counts_mean [] inner h = refl
counts_mean (labels ∷ strategies) inner h =
    cc (length-counted_labels (h.3.1), counts_mean strategies h.1 h.4)

strategies_mean : (k : Kind) (strategies : StrategyLists) (inner : List Token)
    → Each (IsGroup k) inner strategies → AllSome strategies
    → strategies_of (map length strategies) (labels_in k strategies) ≡ strategies
strategies_mean k strategies inner h some =
    grind (arith, counts_mean, strategies_of-joined, all_images (λ n. 0 < n) length strategies some)

labels_fit : (counts : List ℕ) (labels : List (List ℕ)) → length labels ≡ sum counts
    → HasLabels counts labels
labels_fit counts labels e = grind arith

labels_kept : (k : Kind) (strategies : StrategyLists)
    → HasLabels (map length strategies) (labels_in k strategies)
labels_kept k strategies = grind (arith, labels_fit, joined, length-joined)

-- of positive numbers of strategies there are some profiles
some_profiles : (strategies : StrategyLists) → AllSome strategies
    → 0 < 1 * product (map length strategies)
some_profiles strategies some =
    grind (arith, product_above_zero, all_images (λ n. 0 < n) length strategies some)

-- ---- what was read

-- a table, whose tokens these are
pub record Read (ts : List Token) (r : Content) : Type 0 where
  pub sentence : Sentence ts (table_of r)
  pub complete : IsComplete r

-- what is read before the comment
abbrev begun : List ℕ → List (List ℕ) → Kind → StrategyLists → Content
begun title players k strategies =
    with_counts (heading title players) (map length strategies) (labels_in k strategies)

pub sentence_found : (ts : List Token) (r : Content) → run start ts ≡ Ok r → Read ts r
sentence_found ts r e =
    let a = heading_found ts r e in
    let b = strategies_found a.rest (heading a.title a.players) r a.goes_on in
    let c = begun a.title a.players b.kind b.strategies in
    let d = comment_found b.rest c r (some_profiles b.strategies b.some) b.goes_on in
    let k = d.5 in
    let x : Content = filled (with_comment c d.2) k.payoffs k.choices in
    let complete : IsComplete x = record {
      one_count_each = length-map b.strategies length ∙ b.count;
      some_strategy = all_images (λ n. 0 < n) length b.strategies b.some;
      profiles_are = omega arith;
      has_labels = labels_kept b.kind b.strategies;
      has_rows = k.has_rows;
    } in
    subst (Read ts) (sym k.got) (record {
      sentence = record {
        letter = a.letter;
        strategies = braced b.inner;
        comment = d.0;
        body = d.1;
        parts = cc (a.parts, b.parts, d.3);
        is_letter = a.is_letter;
        is_strategies = grind (arith, either_kind, strategies_mean);
        is_comment = d.4;
        is_body = subst (IsBody (length a.players) d.1) (sym (rows-table_of x complete))
            k.is_body;
        is_table = is_table x complete;
      };
      complete = complete;
    })

-- ---- each sentence is read

-- parts that mean the table
pub record Parts (ts : List Token) (t : Table) : Type 0 where
  pub content : Content
  pub read : run start ts ≡ Ok content
  pub means : table_of content ≡ t

-- the table has as many rows as there are profiles
rows_count : (t : Table) → IsTable t → length (rows t) ≡ 1 * product (map length t.strategies)
rows_count t h = grind (arith, length-map, length-profiles)

-- what is read of it
abbrev kept : Table → Kind → List Ratio → List ℕ → Content
kept t k payoffs choices =
    filled (with_comment (begun t.title t.players k t.strategies) t.comment) payoffs choices

table_again : (t : Table) (k : Kind) (payoffs : List Ratio) (choices : List ℕ) → IsTable t
    → strategies_of (map length t.strategies) (labels_in k t.strategies) ≡ t.strategies
    → rows_by (kept t k payoffs choices) choices ≡ rows t → table_of (kept t k payoffs choices) ≡ t
table_again t k payoffs choices h strategies means = grind (arith, entries_again)

past_comment : (comment body : List Token) (said : List ℕ) (c : Content)
    (rs : List (List Ratio)) → IsComment comment said → (k : Kept body (with_comment c said) rs)
    → c ≡ filled (with_comment c []) [] []
    → run (strategies_end c) (comment ++ body)
    ≡ Ok (filled (with_comment c said) k.payoffs k.choices)
past_comment comment body said c rs h k e = grind (arith, comment_may_come)

pub sentence_again : (ts : List Token) (t : Table) → Sentence ts t → Parts ts t
sentence_again ts t s =
    let h = s.is_table in
    let inner = s.is_strategies.0 in
    let k = kind_of inner t.strategies s.is_strategies.2 in
    let c = begun t.title t.players k.0 t.strategies in
    let b = body_again s.body (with_comment c t.comment) (rows t)
    (some_profiles t.strategies h.some_strategy) h.one_payoff_each (rows_count t h) s.is_body in
    let rest = s.comment ++ s.body in
    let leads = run_after step finish (heading_line s.letter t.title t.players)
    (braced inner ++ rest) start _ (heading_leads s.letter t.title t.players s.is_letter) in
    let lists = strategies_again k.0 t.strategies inner rest (heading t.title t.players) k.1
    h.some_strategy in
    let seam = append_assoc inner (Closing ∷ []) rest in
    let after = past_comment s.comment s.body t.comment c (rows t) s.is_comment b refl in
    record {
      content = kept t k.0 b.payoffs b.choices;
      read = cc (s.parts, s.is_strategies.1, leads, seam, h.one_list_each, lists, after);
      means = table_again t k.0 b.payoffs b.choices h
          (strategies_mean k.0 t.strategies inner k.1 h.some_strategy) b.means;
    }

-- tokens mean one table at most
pub one_table : (ts : List Token) (t u : Table) → Sentence ts t → Sentence ts u → t ≡ u
one_table ts t u a b = grind (arith, sentence_again ts t a, sentence_again ts u b)
