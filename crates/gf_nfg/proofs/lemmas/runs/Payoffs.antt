-- Runs over payoffs: the flat list, the outcomes in braces, and the outcome numbers after them; and
-- the rows that they are.
use Rattle.gf_nfg.proofs.Common
use Common.{IsOutcomeInBraces, IsPayoffInBraces, take-append-drop, slice_get_within, AllByRecursion}
use Common.{IsOutcomeNumber, length-append, number_again, with_choices, with_payoffs, append_assoc}
use Common.{NumberFault, index_again, length-drop, append-nil, number_is, number_of, IsPayoff}
use Common.{Position, index_is, index_of, Content, IsIndex, rows_of, Closing, Opening, Ok, mul-suc}
use Common.{Option, Result, braced, chosen, row_of, length, Comma, Ratio, State, Token, [], arith}
use Common.{false, ◌>>=◌, Pays, paid, Bare, Bool, Each, List, Some, Text, drop, refl, take, true}
use Common.{zero, ◌++◌, run, inr, map, suc, ◌*◌, ◌+◌, ◌<◌, ◌∙◌, ◌∷◌, ◌≡◌, ◌≤◌, ◌⊎◌, ap, at, p, ℕ}
use Rattle.gf_token.proofs.Offered.{each_both}
use Rattle.gf_nfg.proofs.lemmas.runs.Common.{ok_is}
use Rattle.gf_nfg.proofs.lemmas.runs.Strategies.{First, all_in, each_parts, groups_found}
use Rattle.gf_nfg.proofs.lemmas.tables.Lists.{get-joined, joined}

-- a payoff that was read
paid_found : (q : Position) (c : Content) (o : Result Ratio NumberFault) (ts : List Token)
    (r : Content) → (paid q c o >>= λ after. run after ts) ≡ Ok r
    → (n : Ratio) × (o ≡ Ok n) × (run (at q (with_payoffs c (n ∷ []))) ts ≡ Ok r)
paid_found q c o ts r e = grind arith

-- ---- the flat list

-- number^due
pub flat_found : (ts : List Token) (due : ℕ) (c r : Content)
    → run (at (p.FlatPayoffs due) c) ts ≡ Ok r
    → (numbers : List Ratio) × Each IsPayoff ts numbers × (length numbers ≡ due)
    × (r ≡ with_payoffs c numbers)
flat_found (Bare b ∷ ts) (suc due) c r e =
    let h = paid_found (p.FlatPayoffs due) c (number_of b) ts r e in
    let k = flat_found ts due (with_payoffs c (h.0 ∷ [])) r h.2 in
    let one : IsPayoff (Bare b ∷ []) h.0 = (b, refl, number_is b h.0 h.1) in
    (h.0 ∷ k.0, (Bare b ∷ [], ts, refl, one, k.1), ap suc k.2, grind (arith, append_assoc, k.3))
flat_found ts due c r e = grind (arith, ok_is, append-nil)

pub flat_again : (numbers : List Ratio) (ts : List Token) (c : Content) → Each IsPayoff ts numbers
    → run (at (p.FlatPayoffs (length numbers)) c) ts ≡ Ok (with_payoffs c numbers)
flat_again [] ts c h = grind (arith, append-nil)
flat_again (n ∷ numbers) ts c h =
    grind (arith, number_again h.3.0 n h.3.2, append_assoc, flat_again numbers h.1)

-- ---- in braces

abbrev with_one : Content → Ratio → Content
with_one c n = with_payoffs c (n ∷ [])

all_payoffs : (ns : List Ratio) (c : Content) → all_in with_one c ns ≡ with_payoffs c ns
all_payoffs [] c = rw append-nil refl
all_payoffs (n ∷ ns) c = grind (arith, append_assoc, all_payoffs ns (with_one c n))

abbrev braced_due : ℕ → ℕ → Content → State
braced_due outcomes due c = at (p.BracedPayoff false outcomes due) c

comma_found : (ts : List Token) (due outcomes : ℕ) (c r : Content)
    → run (at (p.BracedPayoff true outcomes due) c) ts ≡ Ok r
    → (comma : List Token) × (rest : List Token) × (ts ≡ comma ++ rest)
    × ((comma ≡ []) ⊎ (comma ≡ Comma ∷ [])) × (run (braced_due outcomes due c) rest ≡ Ok r)
comma_found (Comma ∷ ts) due outcomes c r e = (Comma ∷ [], ts, refl, inr refl, e)
comma_found ts due outcomes c r e = grind arith

one_braced : (outcomes : ℕ) (ts : List Token) (due : ℕ) (c r : Content)
    → run (braced_due outcomes (suc due) c) ts ≡ Ok r
    → First IsPayoffInBraces (braced_due outcomes) with_one ts due c r
one_braced outcomes (Bare b ∷ ts) due c r e =
    let h = paid_found (p.BracedPayoff true outcomes due) c (number_of b) ts r e in
    let k = comma_found ts due outcomes (with_one c h.0) r h.2 in
    let n = number_is b h.0 h.1 in
    (Bare b ∷ k.0, k.1, h.0, ap (λ x. Bare b ∷ x) k.2, (b, k.0, refl, n, k.3), k.4)
one_braced outcomes _ due c r e = absurd (grind arith)

brace_found : (ts : List Token) (outcomes : ℕ) (c r : Content)
    → run (braced_due outcomes 0 c) ts ≡ Ok r → (rest : List Token) × (ts ≡ Closing ∷ rest)
    × (run (at (p.InOutcomes (outcomes + 1)) c) rest ≡ Ok r)
brace_found (Closing ∷ ts) outcomes c r e = (ts, refl, e)
brace_found _ outcomes c r e = absurd cc

-- (number [Comma])^due Closing
pub braces_found : (ts : List Token) (due outcomes : ℕ) (c r : Content)
    → run (braced_due outcomes due c) ts ≡ Ok r
    → (numbers : List Ratio) × (inner : List Token) × (rest : List Token)
    × (ts ≡ inner ++ Closing ∷ rest) × Each IsPayoffInBraces inner numbers × (length numbers ≡ due)
    × (run (at (p.InOutcomes (outcomes + 1)) (with_payoffs c numbers)) rest ≡ Ok r)
braces_found ts due outcomes c r e =
    let h = groups_found IsPayoffInBraces (braced_due outcomes) with_one (one_braced outcomes) ts
    due c r e in
    grind (arith, run, all_payoffs, brace_found, all_in)

pub braces_again : (numbers : List Ratio) (inner rest : List Token) (outcomes : ℕ) (c : Content)
    → Each IsPayoffInBraces inner numbers → (may : Bool)
    → run (at (p.BracedPayoff may outcomes (length numbers)) c) (inner ++ Closing ∷ rest)
    ≡ run (at (p.InOutcomes (outcomes + 1)) (with_payoffs c numbers)) rest
braces_again [] inner rest outcomes c h may = grind (arith, append-nil)
braces_again (n ∷ numbers) inner rest outcomes c h may =
    let more = braces_again numbers h.1 rest outcomes (with_payoffs c (n ∷ [])) h.4 in
    grind (arith, append_assoc, number_again h.3.0 n h.3.3, more false, more true)

-- ---- outcomes

-- the outcomes still to come, and their closing brace
abbrev pub Outcomes : List Token → ℕ → Content → Content → Type 0
Outcomes ts before c r = (list : List Token) × (numbers : List Token)
    × (outcomes : List (List Ratio)) × (ts ≡ list ++ Closing ∷ numbers)
    × Each (IsOutcomeInBraces (length c.players)) list outcomes
    × (run (at (p.OutcomeNumbers (before + length outcomes) c.profiles)
    (with_payoffs c (joined outcomes))) numbers ≡ Ok r)

-- in more steps than there are tokens
pub outcomes_in : (steps : ℕ) (ts : List Token) (before : ℕ) (c r : Content) → length ts < steps
    → run (at (p.InOutcomes before) c) ts ≡ Ok r → Outcomes ts before c r
outcomes_in zero ts before c r less e = absurd (omega arith)
outcomes_in (suc steps) (Closing ∷ ts) before c r less e =
    ([], ts, [], refl, refl, grind (arith, append-nil))
outcomes_in (suc steps) (Opening ∷ Text name ∷ ts) before c r less e =
    let b = braces_found ts (length c.players) before c r e in
    let size = ap length b.3 ∙ length-append b.1 (Closing ∷ b.2) in
    let h = outcomes_in steps b.2 (before + 1) (with_payoffs c b.0) r (omega (arith, less, size))
    b.6 in
    let group = braced (Text name ∷ b.1) in
    let one : IsOutcomeInBraces (length c.players) group b.0 = (name, b.1, refl, b.4, b.5) in
    let parts : Opening ∷ Text name ∷ ts ≡ (group ++ h.0) ++ Closing ∷ h.1 =
    grind (arith, append_assoc) in
    (group ++ h.0, h.1, b.0 ∷ h.2, parts, (group, h.0, refl, one, h.4), grind (arith, append_assoc))
outcomes_in (suc steps) _ before c r less e = absurd cc

pub outcomes_again : (outcomes : List (List Ratio)) (list rest : List Token) (before : ℕ)
    (c : Content) → Each (IsOutcomeInBraces (length c.players)) list outcomes
    → run (at (p.InOutcomes before) c) (list ++ Closing ∷ rest)
    ≡ run (at (p.OutcomeNumbers (before + length outcomes) c.profiles)
    (with_payoffs c (joined outcomes))) rest
outcomes_again (payoffs ∷ outcomes) list rest before c h =
    grind (arith, braces_again, append_assoc, joined, outcomes_again outcomes)
outcomes_again [] list rest before c h = grind (arith, append-nil)

-- ---- outcomes' numbers

-- an index by itself
abbrev pub IsChoice : List Token → ℕ → Type 0
IsChoice tokens k = (bytes : List ℕ) × (tokens ≡ Bare bytes ∷ []) × IsIndex bytes k

-- a number that was read
chosen_found : (outcomes due : ℕ) (c : Content) (o : Option ℕ) (ts : List Token) (r : Content)
    → (chosen outcomes due c o >>= λ after. run after ts) ≡ Ok r
    → (k : ℕ) × (o ≡ Some k) × (k ≤ outcomes)
    × (run (at (p.OutcomeNumbers outcomes due) (with_choices c (k ∷ []))) ts ≡ Ok r)
chosen_found outcomes due c o ts r h = grind arith

-- index^due
pub record Choices (ts : List Token) (due outcomes : ℕ) (c r : Content) : Type 0 where
  pub choices : List ℕ
  pub each : Each IsChoice ts choices
  pub count : length choices ≡ due
  pub known : AllByRecursion (λ k. k ≤ outcomes) choices
  pub got : r ≡ with_choices c choices

pub choices_found : (ts : List Token) (due outcomes : ℕ) (c r : Content)
    → run (at (p.OutcomeNumbers outcomes due) c) ts ≡ Ok r → Choices ts due outcomes c r
choices_found (Bare b ∷ ts) (suc due) outcomes c r e =
    let h = chosen_found outcomes due c (index_of b) ts r e in
    let k = choices_found ts due outcomes (with_choices c (h.0 ∷ [])) r h.3 in
    record {
      choices = h.0 ∷ k.choices;
      each = (Bare b ∷ [], ts, refl, (b, refl, index_is b h.0 h.1), k.each);
      count = ap suc k.count;
      known = (h.2, k.known);
      got = cc (k.got, append_assoc c.choices (h.0 ∷ []) k.choices);
    }
choices_found ts due outcomes c r e = grind (arith, ok_is, append-nil)

pub choices_again : (choices : List ℕ) (ts : List Token) (outcomes : ℕ) (c : Content)
    → Each IsChoice ts choices → AllByRecursion (λ k. k ≤ outcomes) choices
    → run (at (p.OutcomeNumbers outcomes (length choices)) c) ts ≡ Ok (with_choices c choices)
choices_again [] ts outcomes c h known = grind (arith, append-nil)
choices_again (k ∷ choices) ts outcomes c h known =
    grind (arith, index_again h.3.0 k h.3.2, append_assoc, choices_again choices h.1 outcomes)

-- ---- the rows of both bodies

-- ---- the payoff version

-- payoffs in turn are rows in turn
pub rows_each : (size n : ℕ) (numbers : List Ratio) (tokens : List Token)
    → length numbers ≡ size * n → Each IsPayoff tokens numbers
    → Each (Each IsPayoff) tokens (rows_of size n numbers)
rows_each size (suc n) numbers tokens e h =
    let s = each_parts IsPayoff (take size numbers) (drop size numbers) tokens
    (rw take-append-drop h) in
    let rest = rows_each size n (drop size numbers) s.1 (grind (arith, length-drop, mul-suc)) s.4 in
    (s.0, s.1, s.2, s.3, rest)
rows_each size zero [] tokens e h = h
rows_each size zero numbers tokens e h = absurd (grind arith)

pub rows_joined : (rs : List (List Ratio)) (tokens : List Token) → Each (Each IsPayoff) tokens rs
    → Each IsPayoff tokens (joined rs)
rows_joined [] tokens h = h
rows_joined (row ∷ rs) tokens h = grind (arith, each_both, joined, rows_joined rs h.1 h.4)

-- ---- the outcome version

pub outcomes_full : (players : ℕ) (outcomes : List (List Ratio)) (list : List Token)
    → Each (IsOutcomeInBraces players) list outcomes
    → AllByRecursion (λ row. length row ≡ players) outcomes
outcomes_full players [] list h = tt
outcomes_full players (row ∷ outcomes) list h = (h.3.4, outcomes_full players outcomes h.1 h.4)

module _ (players : ℕ) (outcomes : List (List Ratio))
    (full : AllByRecursion (λ row. length row ≡ players) outcomes) where
  pub choices_pay : (choices : List ℕ) (tokens : List Token) → Each IsChoice tokens choices
      → AllByRecursion (λ k. k ≤ length outcomes) choices
      → Each (IsOutcomeNumber players outcomes) tokens
      (map (row_of players (joined outcomes)) choices)
  choices_pay [] tokens h known = h
  choices_pay (k ∷ choices) tokens h known =
      let pays : Pays players outcomes k (row_of players (joined outcomes) k) =
      grind (arith, get-joined) in
      (h.0, h.1, h.2, (h.3.0, k, h.3.1, h.3.2, pays), choices_pay choices h.1 h.4 known.1)

  -- an outcome's number that pays a row, as it is read
  pub record Chosen (tokens : List Token) (rs : List (List Ratio)) : Type 0 where
    pub choices : List ℕ
    pub each : Each IsChoice tokens choices
    pub known : AllByRecursion (λ k. k ≤ length outcomes) choices
    pub rows : map (row_of players (joined outcomes)) choices ≡ rs
    pub count : length choices ≡ length rs

  pub choices_chosen : (rs : List (List Ratio)) (tokens : List Token)
      → Each (IsOutcomeNumber players outcomes) tokens rs → Chosen tokens rs
  choices_chosen (row ∷ rs) tokens h =
      let k = h.3.1 in
      let p : (k ≤ length outcomes) × (row_of players (joined outcomes) k ≡ row) =
      grind (arith, slice_get_within, get-joined) in
      let more = choices_chosen rs h.1 h.4 in
      record {
        choices = k ∷ more.choices;
        each = (h.0, h.1, h.2, (h.3.0, h.3.2, h.3.3), more.each);
        known = (p.0, more.known);
        rows = (λ i. p.1 i ∷ more.rows i);
        count = ap suc more.count;
      }
  choices_chosen rs tokens h = grind arith
