-- Runs over the payoffs of an outcome in braces, for a new outcome and for a known one.
use Rattle.gf_tree.proofs.Common
use Common.{IsPayoffInBraces, append_assoc, number_again, with_outcome, KnownPayoff, ℕ}
use Common.{same_number, with_payoff, append-nil, run_tokens, NewPayoff, number_is, with_node, Bare}
use Common.{IsNumber, then_run, Closing, Content, NodeDue, Outcome, length, Begun}
use Common.{Comma, Ratio, State, Token, arith, false, Bool, Each, List, Some, refl, true}
use Common.{zero, ◌++◌, inr, suc, ◌∙◌, ◌∷◌, ◌≡◌, ◌⊎◌, Ok, [], ap, at}
use Rattle.gf_fraction.specs.Offered.{number_of}
use Rattle.gf_tree.proofs.lemmas.runs.Tokens.{ratio_same, run_on, Reads}

-- ---- numbers in braces

abbrev MayBeComma : Bool → List Token → Type 0
MayBeComma true ts = (ts ≡ []) ⊎ (ts ≡ Comma ∷ [])
MayBeComma false ts = ts ≡ []

-- (number [Comma])* Closing rest, after a comma if there may be one
pub record Numbers (may : Bool) (ts : List Token) (numbers : List Ratio)
    (rest : List Token) : Type 0 where
  pub comma : List Token
  pub inner : List Token
  pub parts : ts ≡ comma ++ (inner ++ Closing ∷ rest)
  pub is_comma : MayBeComma may comma
  pub each : Each IsPayoffInBraces inner numbers

no_numbers : (may : Bool) (rest : List Token) → Numbers may (Closing ∷ rest) [] rest
no_numbers may rest = grind arith

more_numbers : (may : Bool) (b : List ℕ) (p : Ratio) (ts : List Token) (numbers : List Ratio)
    (rest : List Token)
    → IsNumber b p → Numbers true ts numbers rest → Numbers may (Bare b ∷ ts) (p ∷ numbers) rest
more_numbers may b p ts numbers rest is h = record {
  comma = [];
  inner = (Bare b ∷ h.comma) ++ h.inner;
  parts = cc (h.parts, append_assoc h.comma h.inner (Closing ∷ rest));
  is_comma = grind arith;
  each = (Bare b ∷ h.comma, h.inner, refl, (b, h.comma, refl, is, h.is_comma), h.each);
}

past_comma : (ts : List Token) (numbers : List Ratio) (rest : List Token)
    → Numbers false ts numbers rest → Numbers true (Comma ∷ ts) numbers rest
past_comma ts numbers rest h = record {
  comma = Comma ∷ [];
  inner = h.inner;
  parts = cc (h.parts, h.is_comma);
  is_comma = inr refl;
  each = h.each;
}

-- ---- of a new outcome

abbrev pub with_payoffs : Outcome → List Ratio → Outcome
with_payoffs outcome ps = record outcome { payoffs = outcome.payoffs ++ ps }

-- the node is whole, with this outcome
abbrev pub new_result : Content → Begun → ℕ → Outcome → Content
new_result c b n outcome = with_node (with_outcome c n outcome) b (Some n)

pub no_payoffs : (outcome : Outcome) → with_payoffs outcome [] ≡ outcome
no_payoffs outcome = ap (λ ps. record outcome { payoffs = ps }) (append-nil outcome.payoffs)

pub record NewPayoffs (may : Bool) (ts : List Token) (b : Begun) (n : ℕ) (outcome : Outcome)
    (left : ℕ) (c r : Content) : Type 0 where
  pub numbers : List Ratio
  pub rest : List Token
  pub are : Numbers may ts numbers rest
  pub count : length numbers ≡ left
  pub goes_on : Reads NodeDue (new_result c b n (with_payoffs outcome numbers)) rest r

new_end : (may : Bool) (ts : List Token) (b : Begun) (n : ℕ) (outcome : Outcome) (c r : Content)
    → Reads NodeDue (new_result c b n outcome) ts r
    → NewPayoffs may (Closing ∷ ts) b n outcome zero c r
new_end may ts b n outcome c r e = grind (arith, no_payoffs outcome)

new_more : (may : Bool) (t : List ℕ) (p : Ratio) (ts : List Token)
    (b : Begun) (n : ℕ) (outcome : Outcome) (left : ℕ) (c r : Content) → number_of t ≡ Ok p
    → NewPayoffs true ts b n (with_payoff outcome p) left c r
    → NewPayoffs may (Bare t ∷ ts) b n outcome (suc left) c r
new_more may t p ts b n outcome left c r e h =
    grind (arith, more_numbers, number_is, append_assoc)

pub new_found : (may : Bool) (ts : List Token) (b : Begun)
    (n : ℕ) (outcome : Outcome) (left : ℕ) (c r : Content)
    → Reads (NewPayoff may b n outcome left) c ts r → NewPayoffs may ts b n outcome left c r
new_found true (Comma ∷ ts) b n outcome left c r e =
    grind (arith, past_comma, new_found false ts b n outcome left c r e)
new_found may (Bare t ∷ ts) b n outcome (suc left) c r e =
    let h : (p : Ratio) × (number_of t ≡ Ok p)
    × Reads (NewPayoff true b n (with_payoff outcome p) left) c ts r = grind arith in
    new_more may t h.0 ts b n outcome left c r h.1
    (new_found true ts b n (with_payoff outcome h.0) left c r h.2)
new_found may ts b n outcome left c r e = grind (arith, new_end)

pub new_again : (numbers : List Ratio) (inner rest : List Token)
    (b : Begun) (n : ℕ) (outcome : Outcome) (c : Content)
    → Each IsPayoffInBraces inner numbers → (may : Bool)
    → run_tokens (NewPayoff may b n outcome (length numbers)) c (inner ++ Closing ∷ rest)
    ≡ run_tokens NodeDue (new_result c b n (with_payoffs outcome numbers)) rest
new_again [] inner rest b n outcome c h may = cc (h, no_payoffs outcome)
new_again (p ∷ numbers) inner rest b n outcome c h may =
    grind (
      arith,
      number_again h.3.0 p h.3.3,
      new_again
          numbers h.1 rest b n (with_payoff outcome p) c h.4,
      append_assoc outcome.payoffs (p ∷ []) numbers,
    )

-- ---- of a known outcome

-- a number that was to be this one
pub number_found : (wanted : Ratio) (s : State) (t : List ℕ) (ts : List Token) (r : Content)
    → then_run (same_number wanted s (number_of t)) (run_on ts) ≡ Ok r
    → IsNumber t wanted × Reads s.position s.content ts r
number_found wanted s t ts r e = grind (arith, number_is)

pub number_same : (p : Ratio) (s : State) (t : List ℕ) → IsNumber t p
    → same_number p s (number_of t) ≡ Ok s
number_same p s t is = ap (same_number p s) (number_again t p is) ∙ rw (ratio_same p) refl

pub known_found : (may : Bool) (ts : List Token) (ps : List Ratio) (c r : Content)
    → Reads (KnownPayoff may ps) c ts r
    → (rest : List Token) × Numbers may ts ps rest × Reads NodeDue c rest r
known_found true (Comma ∷ ts) ps c r e =
    let h = known_found false ts ps c r e in (h.0, past_comma ts ps h.0 h.1, h.2)
known_found may (Bare t ∷ ts) (p ∷ ps) c r e =
    let h = number_found p (at (KnownPayoff true ps) c) t ts r e in
    let k = known_found true ts ps c r h.1 in
    (k.0, more_numbers may t p ts ps k.0 h.0 k.1, k.2)
known_found may ts ps c r e = grind (arith, no_numbers)

pub known_again : (ps : List Ratio) (inner rest : List Token) (c : Content)
    → Each IsPayoffInBraces inner ps → (may : Bool)
    → run_tokens (KnownPayoff may ps) c (inner ++ Closing ∷ rest) ≡ run_tokens NodeDue c rest
known_again [] inner rest c h may = rw h refl
known_again (p ∷ ps) inner rest c h may =
    grind (arith, number_same, known_again ps h.1 rest c h.4)
