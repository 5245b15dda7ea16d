-- Runs over the actions of a known information set in braces.
use Rattle.gf_tree.proofs.Common.{AllByRecursion, OutcomeNumber, append_assoc, KnownAction, AddUpTo}
use Rattle.gf_tree.proofs.Common.{AreActions, past_label, run_tokens, IsAction, Closing, Content, ℕ}
use Rattle.gf_tree.proofs.Common.{Action, Begun, Ratio, Token, arith, subst, whole, Bare, Each, pos}
use Rattle.gf_tree.proofs.Common.{List, None, Some, Text, refl, zero, ◌++◌, suc, ◌∷◌, ◌≡◌, [], ap}
use Rattle.gf_tree.proofs.Common.{at}
use Rattle.gf_tree.proofs.lemmas.runs.Tokens.{Reads, refused, text_found, text_again}
use Rattle.gf_tree.proofs.lemmas.runs.Payoffs.{number_found, number_same}

-- each of chance has a probability, and none of a player has one
abbrev pub HasProbability : ℕ → Action → Type 0
HasProbability zero a = (p : Ratio) × (a.probability ≡ Some p)
HasProbability (suc player) a = a.probability ≡ None

chance_has : (actions : List Action) (sum total : Ratio) → AddUpTo sum actions total
    → AllByRecursion (HasProbability 0) actions
chance_has [] sum total h = tt
chance_has (a ∷ actions) sum total h = ((h.0, h.2), chance_has actions h.1 total h.5)

pub probabilities : (player : ℕ) (actions : List Action) → AreActions player actions
    → AllByRecursion (HasProbability player) actions
probabilities zero actions h = chance_has actions (whole (pos 0)) (whole (pos 1)) h
probabilities (suc player) actions h = h

pub record KnownActions (ts : List Token) (player : ℕ) (actions : List Action) (b : Begun)
    (c r : Content) : Type 0 where
  pub inner : List Token
  pub rest : List Token
  pub parts : ts ≡ inner ++ Closing ∷ rest
  pub each : Each (IsAction player) inner actions
  pub goes_on : Reads (OutcomeNumber b) c rest r

known_more : (first ts : List Token) (player : ℕ) (a : Action)
    (actions : List Action) (b : Begun) (c r : Content) → IsAction player first a
    → KnownActions ts player actions b c r → KnownActions (first ++ ts) player (a ∷ actions) b c r
known_more first ts player a actions b c r is h = record {
  inner = first ++ h.inner;
  rest = h.rest;
  parts = cc (h.parts, append_assoc first h.inner (Closing ∷ h.rest));
  each = (first, h.inner, refl, is, h.each);
  goes_on = h.goes_on;
}

pub known_found : (actions : List Action) (player : ℕ) (ts : List Token) (b : Begun) (c r : Content)
    → AllByRecursion (HasProbability player) actions → Reads (KnownAction b actions) c ts r
    → KnownActions ts player actions b c r
known_found [] player (Closing ∷ ts) b c r has e =
    record { inner = []; rest = ts; parts = refl; each = refl; goes_on = e }
known_found [] player _ b c r has e = absurd (refused _ r tt e)
known_found (a ∷ actions) zero (Text label ∷ Bare t ∷ ts) b c r has e =
    let h = text_found a.label label _ (Bare t ∷ ts) r e in
    let k = subst (λ o. Reads (past_label b o actions) c (Bare t ∷ ts) r) has.0.1 h.1 in
    let x = number_found has.0.0 (at (KnownAction b actions) c) t ts r k in
    known_more (Text label ∷ Bare t ∷ []) ts 0 a actions b c r
    (t, has.0.0, ap (λ (l : List ℕ). Text l ∷ Bare t ∷ []) h.0, x.0, has.0.1)
    (known_found actions 0 ts b c r has.1 x.1)
known_found (a ∷ actions) zero (Text label ∷ ts) b c r has e =
    let h = text_found a.label label _ ts r e in
    absurd (refused _ r tt (subst (λ o. Reads (past_label b o actions) c ts r) has.0.1 h.1))
known_found (a ∷ actions) (suc player) (Text label ∷ ts) b c r has e =
    let h = text_found a.label label _ ts r e in
    known_more (Text label ∷ []) ts (suc player) a actions b c r
    (ap (λ (l : List ℕ). Text l ∷ []) h.0, has.0) (known_found actions (suc player) ts b c r has.1
    (subst (λ o. Reads (past_label b o actions) c ts r) has.0 h.1))
known_found (a ∷ actions) zero _ b c r has e = absurd (refused _ r tt e)
known_found (a ∷ actions) (suc player) _ b c r has e = absurd (refused _ r tt e)

pub known_again : (actions : List Action) (player : ℕ)
    (inner rest : List Token) (b : Begun) (c : Content) → Each (IsAction player) inner actions
    → run_tokens (KnownAction b actions) c (inner ++ Closing ∷ rest)
    ≡ run_tokens (OutcomeNumber b) c rest
known_again [] player inner rest b c each = rw each refl
known_again (a ∷ actions) zero inner rest b c each =
    grind (
      arith,
      text_again,
      number_same each.3.1 (at (KnownAction b actions) c) each.3.0 each.3.3,
      known_again actions 0 each.1 rest b c each.4,
    )
known_again (a ∷ actions) (suc player) inner rest b c each =
    grind (arith, known_again actions (suc player) each.1 rest b c each.4, text_again)
