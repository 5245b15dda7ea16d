-- Runs over the actions of a new information set in braces.
use Rattle.gf_tree.proofs.Common
use Common.{AllByRecursion, InformationSet, OutcomeNumber, append_assoc, with_action, IsFraction, ℕ}
use Common.{append-nil, run_tokens, NewAction, IsAction, share_of, then_run, with_set, AddUpTo, Why}
use Common.{Closing, Content, Action, AddsTo, Option, Result, length, set_of, shared, Ratio, Share}
use Common.{Token, arith, begun, subst, whole, Bare, Each, List, None, Some, Text, refl, zero, ◌++◌}
use Common.{◌≤ℤ◌, pos, suc, sym, ◌<◌, ◌∙◌, ◌∷◌, ◌≡◌, Ok, [], ap}
use Rattle.gf_tree.proofs.lemmas.runs.Tokens.{Reads, run_on, ratio_is}
use Rattle.gf_tree.proofs.lemmas.runs.Shares.{share_found, share_again, sum_high}

-- the probabilities of chance after this sum add up to one; a player's actions have none
abbrev pub AreOthers : ℕ → Ratio → List Action → Type 0
AreOthers zero sum actions = AddUpTo sum actions (whole (pos 1))
AreOthers (suc player) sum actions = AllByRecursion (λ a. a.probability ≡ None) actions

abbrev pub with_actions : InformationSet → List Action → InformationSet
with_actions set actions = record set { actions = set.actions ++ actions }

pub no_actions : (set : InformationSet) → with_actions set [] ≡ set
no_actions set = ap (λ (done : List Action). record set { actions = done }) (append-nil set.actions)

pub more_actions : (set : InformationSet) (label : List ℕ) (p : Option Ratio)
    (actions : List Action) → with_actions (with_action set label p) actions
    ≡ with_actions set (record { label = label; probability = p } ∷ actions)
more_actions set label p actions = ap (λ (done : List Action). record set { actions = done })
    (append_assoc set.actions (record { label = label; probability = p } ∷ []) actions)

pub record NewActions (ts : List Token) (name : List ℕ) (player n : ℕ) (set : InformationSet)
    (sum : Ratio) (c r : Content) : Type 0 where
  pub actions : List Action
  pub inner : List Token
  pub rest : List Token
  pub parts : ts ≡ inner ++ Closing ∷ rest
  pub each : Each (IsAction player) inner actions
  pub some : 0 < length (set.actions ++ actions)
  pub are : AreOthers player sum actions
  pub goes_on : Reads (OutcomeNumber (begun name (set_of player n) (with_actions set actions)))
      (with_set c (set_of player n) (with_actions set actions)) rest r

new_end : (ts : List Token) (name : List ℕ) (player n : ℕ)
    (set : InformationSet) (sum : Ratio) (c r : Content)
    → 0 < length set.actions → AreOthers player sum []
    → Reads (OutcomeNumber (begun name (set_of player n) set))
    (with_set c (set_of player n) set) ts r → NewActions (Closing ∷ ts) name player n set sum c r
new_end ts name player n set sum c r some are e = grind (arith, no_actions)

new_more : (first ts : List Token) (name label : List ℕ) (player n : ℕ) (set : InformationSet)
    (p : Option Ratio) (sum next : Ratio) (c r : Content)
    → IsAction player first (record { label = label; probability = p })
    → ((actions : List Action) → AreOthers player next actions
    → AreOthers player sum (record { label = label; probability = p } ∷ actions))
    → NewActions ts name player n (with_action set label p) next c r
    → NewActions (first ++ ts) name player n set sum c r
new_more first ts name label player n set p sum next c r is are h =
    let action : Action = record { label = label; probability = p } in
    let all = more_actions set label p h.actions in
    record {
      actions = action ∷ h.actions;
      inner = first ++ h.inner;
      rest = h.rest;
      parts = cc (append_assoc first h.inner (Closing ∷ h.rest));
      each = (first, h.inner, refl, is, h.each);
      some = subst (λ (s : InformationSet). 0 < length s.actions) all h.some;
      are = are h.actions h.are;
      goes_on = cc;
    }

abbrev pub ok_share : Share → Result Share Why
ok_share s = Ok s

pub new_found : (ts : List Token) (name : List ℕ) (player n : ℕ)
    (set : InformationSet) (sum : Ratio) (c r : Content) → IsFraction sum
    → Reads (NewAction name (set_of player n) set sum) c ts r
    → NewActions ts name player n set sum c r
new_found (Text label ∷ ts) name (suc player) n set sum c r fraction e =
    new_more (Text label ∷ []) ts name label (suc player) n set None sum sum c r (refl, refl)
    (λ actions h. (refl, h))
    (new_found ts name (suc player) n (with_action set label None) sum c r fraction e)
new_found (Text label ∷ Bare b ∷ ts) name zero n set sum c r fraction e =
    let h : (s : Share) × (share_of sum b ≡ ok_share s)
    × Reads (NewAction name (set_of 0 n) (with_action set label (Some s.probability)) s.sum) c ts r =
    grind arith in
    let s = h.0 in
    let is = share_found sum b s fraction h.1 in
    new_more (Text label ∷ Bare b ∷ []) ts name label 0 n set (Some s.probability) sum s.sum c r
    (b, s.probability, refl, is.number, refl)
    (λ actions k. (s.probability, s.sum, refl, is.not_below, is.adds, k))
    (new_found ts name 0 n (with_action set label (Some s.probability)) s.sum c r is.adds.1 h.2)
new_found ts name player n set sum c r fraction e = grind (arith, new_end, ratio_is)

-- ---- each new set is read

record FirstShare (sum p : Ratio) (actions : List Action) : Type 0 where
  next : Ratio
  not_below : pos 0 ≤ℤ p.num
  adds : AddsTo sum p next
  others : AreOthers 0 next actions

-- the sum of the probabilities so far is at most one, if the others add up to one with it
high : (actions : List Action) (inner : List Token) (sum : Ratio) → IsFraction sum
    → Each (IsAction 0) inner actions → AreOthers 0 sum actions → sum.num ≤ℤ pos sum.den
high [] inner sum fraction each h = grind arith
high (a ∷ actions) inner sum fraction each h =
    let p = each.3.1 in
    let s : FirstShare sum p actions = grind arith in
    sum_high sum p s.next each.3.3.fraction.den_above_zero fraction.den_above_zero s.not_below
    s.adds (high actions each.1 s.next s.adds.1 each.4 s.others)

pub new_again : (actions : List Action) (player : ℕ) (inner rest : List Token)
    (name : List ℕ) (n : ℕ) (set : InformationSet) (sum : Ratio) (c : Content) → IsFraction sum
    → Each (IsAction player) inner actions → AreOthers player sum actions
    → 0 < length (set.actions ++ actions)
    → run_tokens (NewAction name (set_of player n) set sum) c (inner ++ Closing ∷ rest)
    ≡ run_tokens (OutcomeNumber (begun name (set_of player n) (with_actions set actions)))
    (with_set c (set_of player n) (with_actions set actions)) rest
new_again [] player inner rest name n set sum c fraction each h some =
    grind (arith, no_actions, begun)
new_again (a ∷ actions) zero inner rest name n set sum c fraction each h some =
    let b = each.3.0 in
    let p = each.3.1 in
    let s : FirstShare sum p actions = grind arith in
    let is : a ≡ record { label = a.label; probability = Some p } =
    λ i. record { label = a.label; probability = each.3.4 i } in
    let all : with_actions (with_action set a.label (Some p)) actions
    ≡ with_actions set (a ∷ actions) = cc (more_actions set a.label (Some p) actions) in
    let first : inner ++ Closing ∷ rest ≡ Text a.label ∷ Bare b ∷ (each.1 ++ Closing ∷ rest) = cc in
    let more = subst (λ (t : InformationSet). 0 < length t.actions) (sym all) some in
    ap (run_tokens (NewAction name (set_of 0 n) set sum) c) first ∙ ap
    (λ o. then_run (shared c name (set_of 0 n) set a.label o) (run_on (each.1 ++ Closing ∷ rest)))
    (share_again sum p s.next b fraction each.3.3 s.not_below s.adds
    (high actions each.1 s.next s.adds.1 each.4 s.others))
    ∙ new_again actions 0 each.1 rest name n (with_action set a.label (Some p)) s.next c s.adds.1
    each.4 s.others more ∙ ap (λ (t : InformationSet).
    run_tokens (OutcomeNumber (begun name (set_of 0 n) t)) (with_set c (set_of 0 n) t) rest)
    all
new_again (a ∷ actions) (suc player) inner rest name n set sum c fraction each h some =
    grind (arith, new_again actions (suc player) each.1 rest name n, with_action, more_actions)
