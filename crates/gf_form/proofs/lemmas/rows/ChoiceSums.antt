-- Terms that are added up for each choice of an action at each digit.
use Rattle.gf_form.proofs.Common
use Common.{mul-le-mul_right, AllByRecursion, with_demands, CountsBelow, all_choices}
use Common.{AreExactAt, AreInOrder, actions_at, all_images, all_weaker, append-nil, map-append, Err}
use Common.{AreMerged, EndsBelow, IsExactAt, all_parts, all_terms, map_twice, take_rest, AreAlike}
use Common.{SettleBy, all_both, cases_lt, steps_of, lowered, product, ComeTo, get_or, length, Asked}
use Common.{Digit, Terms, arith, meets, spans, subst, List, OnOk, Term, ints, part, refl, true, Run}
use Common.{◌++◌, inl, inr, map, sym, ◌*◌, ◌+◌, ◌-◌, ◌<◌, ◌∙◌, ◌∷◌, ◌≡◌, ◌≤◌, ◌⊎◌, [], ℕ}
use Rattle.std.specs.Prelude.{Result, Ok}
use Rattle.std.proofs.lemmas.List.{append_assoc}
use Rattle.gf_form.specs.inner.rows.ChoiceSums.{AreActions, AreAddedUp, AddUpTo, HasSums, raised}
use Rattle.gf_form.proofs.lemmas.rows.GameDigits.{choice_at_number}
use Rattle.gf_form.proofs.lemmas.rows.MergedTerms.{come_to_both, other_unmet, come_moved, come_none}
use Rattle.gf_form.proofs.lemmas.rows.MergedTerms.{raised_met, sum_append, free_met, IsOther, IsOwn}
use Rattle.gf_form.proofs.lemmas.rows.MergedTerms.{IsFree}
use Rattle.gf_form.proofs.lemmas.rows.Digits.{spans_above}
use Rattle.gf_form.proofs.lemmas.rows.FlatRows.{lowered_none, terms_count, range, cut}
use Rattle.gf_form.proofs.lemmas.rows.PairRows.{free_met as zero_met}

-- ---- by way of others

pub added_through : (digits : List Digit) (least : ℕ) (from list old new : Terms)
    → AddUpTo (actions_at digits) (all_terms from) (all_terms list)
    → AreAddedUp digits least list old new → AreAddedUp digits least from old new
added_through digits least from list old new first h = record {
  sums = record {
    sums = h.sums.sums;
    is = h.sums.is;
    within = h.sums.within;
    add_up = λ den choices valid exact.
        let one = h.sums.add_up den choices valid exact in
        let other = first den choices valid one.exact in
        record { exact = other.exact; sums = λ k. other.sums k ∙ one.sums k };
  };
  order = h.order;
  ends = h.ends;
}

-- ---- at each action

-- while the actions are gone through
pub record Summing (faster : List ℕ) (es : List Term) (least done : ℕ) (old new : List Term)
    : Type 0 where
  pub sums : List Term
  pub is : new ≡ old ++ map (raised least) sums
  pub within : AllByRecursion
      (λ e. (product (spans faster) ≤ e.head.demands)
      × (e.head.demands < (done + 1) * product (spans faster))) sums
  pub add_up : AddUpTo (done ∷ faster) es sums

pub first_summing : (faster : List ℕ) (es : List Term) (least : ℕ) (old : List Term)
    → Summing faster es least 0 old old
first_summing faster es least old =
    record { sums = []; is = sym (append-nil old); within = tt; add_up = none }
  where
    none : AddUpTo (0 ∷ faster) es []
    none den [] valid exact = absurd valid
    none den (c ∷ choices) valid exact = absurd (omega (arith, valid.0.0, valid.0.1))

raised_twice : (a b : ℕ) (es : List Term)
    → map (raised a) (map (raised b) es) ≡ map (raised (a + b)) es
raised_twice a b [] = refl
raised_twice a b (e ∷ es) = grind (arith, raised_twice a b es)

module _ (faster : List ℕ) (es : List Term) (least done : ℕ) (old now new : List Term)
    (before : Summing faster es least done old now) (left : List Term)
    (merged : AreMerged (product (spans faster)) (done + 1) es left)
    (more : HasSums faster (least + (done + 1) * product (spans faster)) left now new) where
  abbrev step : ℕ
  step = product (spans faster)

  abbrev own : List Term
  own = map (raised ((done + 1) * step)) more.sums

  are_own : AllByRecursion (IsOwn step (done + 1)) own
  are_own = grind (arith, all_images, all_weaker)

  first_le : 1 * step ≤ (done + 1) * step
  first_le = mul-le-mul_right step (omega arith)

  module _ (den : ℕ) (choices : List ℕ) (valid : AreActions faster choices) where
    abbrev AddsUpAt : ℕ → Type 0
    AddsUpAt c = AreExactAt den (step ∷ steps_of faster) (c ∷ choices) (before.sums ++ own)
        → ComeTo den (step ∷ steps_of faster) (c ∷ choices) es (step ∷ steps_of faster)
        (c ∷ choices) (before.sums ++ own)

    -- at an action that was gone through, the new ones count for nothing
    at_earlier : (c : ℕ) → 1 ≤ c → c ≤ done → AddsUpAt c
    at_earlier c some le exact =
        let steps = steps_of faster in
        let below : (c + 1) * step ≤ (done + 1) * step =
        mul-le-mul_right step (omega (arith, le)) in
        let one = before.add_up den (c ∷ choices) ((some, le), valid)
        (all_parts (IsExactAt den (step ∷ steps) (c ∷ choices)) before.sums own exact).0 in
        let none = come_none den (step ∷ steps) (c ∷ choices) [] [] (IsOther step c)
        (other_unmet step c steps choices) own (all_weaker (IsOwn step (done + 1)) (IsOther step c)
        (λ e h. (omega (arith, h.0, first_le), inr (omega (arith, h.0, below)))) own are_own) in
        grind (arith, sum_append, ints)

    -- at the new one, those before it do
    at_latest : AddsUpAt (done + 1)
    at_latest exact =
        let c = done + 1 in
        let steps = steps_of faster in
        let parts = all_parts (IsExactAt den (step ∷ steps) (c ∷ choices)) before.sums own exact in
        let low : ComeTo den steps choices more.sums (step ∷ steps) (c ∷ choices) own = come_moved
        den steps choices (step ∷ steps) (c ∷ choices) (IsFree step) (λ e. e.head.demands + c *
        step) (raised_met step c steps choices (omega arith)) more.sums more.within parts.1 in
        let one = more.add_up den choices valid low.exact in
        grind (arith, sum_append, come_none, other_unmet, all_weaker)

  adds_up : AddUpTo ((done + 1) ∷ faster) es (before.sums ++ own)
  adds_up den [] valid = absurd valid
  adds_up den (c ∷ choices) valid = at (cases_lt done c)
    where
      at : (done < c) ⊎ (c ≤ done) → AddsUpAt den choices valid.1 c
      at (inr le) = at_earlier den choices valid.1 c valid.0.0 le
      at (inl new) =
          let same : done + 1 ≡ c = omega (arith, new, valid.0.1) in
          subst (AddsUpAt den choices valid.1) same (at_latest den choices valid.1)

  pub more_summing : Summing faster es least (done + 1) old new
  more_summing = record {
    sums = before.sums ++ own;
    is = grind (arith, raised_twice, map-append, append_assoc);
    within = grind (arith, all_both, all_weaker, first_le, are_own);
    add_up = adds_up;
  }

pub last_summing : (n : ℕ) (faster : List ℕ) (es : List Term) (least : ℕ) (old new : List Term)
    → Summing faster es least n old new → HasSums (n ∷ faster) least es old new
last_summing n faster es least old new done = grind (arith, all_weaker, IsFree)

-- ---- if nothing more is demanded

-- they are met by all choices
abbrev pub IsMet : List ℕ → Term → Type 0
IsMet actions e = (choices : List ℕ) → meets (steps_of actions) choices e.head.demands ≡ true

pub last_met : (digits : List Digit) (es : List Term) → length digits ≡ 0
    → AllByRecursion (IsMet (actions_at digits)) es
last_met [] (e ∷ es) none = ((λ choices. refl), last_met [] es none)
last_met digits es none = grind arith

pub none_demanded : {T E : Type 0} (result : Result T E) (digits : List Digit) (least : ℕ)
    (from old new : Terms) → AllByRecursion (IsMet (actions_at digits)) (all_terms from)
    → OnOk result (all_terms new ≡ all_terms old ++ map (with_demands least) (all_terms from))
    → OnOk result (AreInOrder new) → OnOk result (EndsBelow new.demands.items least)
    → OnOk result (AreAddedUp digits least from old new)
none_demanded (Err e) digits least from old new met is order ends = tt
none_demanded (Ok done) digits least from old new met is order ends =
    let actions = actions_at digits in
    let es = all_terms from in
    let low = with_demands 0 in
    let none : least ≡ 0 + least = omega arith in record {
      sums = record {
        sums = map low es;
        is = is ∙ (λ i. all_terms old ++ map (with_demands (none i)) es)
            ∙ (λ i. all_terms old ++ sym (map_twice (raised least) low es) i);
        within = grind (arith, all_images, all_weaker, spans_above);
        add_up = λ den choices valid exact.
            come_moved den (steps_of actions) choices (steps_of actions) choices (IsMet actions)
            (λ e. 0) (λ e h. h choices ∙ sym (zero_met actions choices)) es met exact;
      };
      order = order;
      ends = λ d some. omega (arith, ends d some);
    }

pub alone_met : (actions : List ℕ) (t : Terms) → length t.demands.items ≤ 1
    → get_or t.demands.items 0 0 ≡ 0 → AllByRecursion (IsMet actions) (all_terms t)
alone_met actions t few none = grind (arith, zero_met)

-- ---- those that demand nothing at the slowest digit

none_lowered : (es : List Term) → map (lowered 0) es ≡ es
none_lowered [] = refl
none_lowered (e ∷ es) = λ i. lowered_none e i ∷ none_lowered es i

pub front_adds_up : (n : ℕ) (faster : List ℕ) (es front rest sums : List Term)
    → es ≡ front ++ rest → AllByRecursion (IsFree (product (spans faster))) front
    → HasSums faster 0 front [] sums → AddUpTo (n ∷ faster) es (sums ++ rest)
front_adds_up n faster es front rest sums parts_are are_free h den [] valid exact = absurd valid
front_adds_up n faster es front rest sums parts_are are_free h den (c ∷ choices) valid exact =
    let step = product (spans faster) in
    let steps = steps_of faster in
    let parts = all_parts (IsExactAt den (step ∷ steps) (c ∷ choices)) sums rest exact in
    let met = free_met step c steps choices in
    let low : ComeTo den steps choices h.sums (step ∷ steps) (c ∷ choices) (map (raised 0) h.sums) =
    come_moved den steps choices (step ∷ steps) (c ∷ choices) (IsFree step)
    (λ e. e.head.demands + 0) (λ e free. grind arith) h.sums h.within (rw h.is at parts.0) in
    let one = h.add_up den choices valid.1 low.exact in
    let first : ComeTo den (step ∷ steps) (c ∷ choices) front steps choices
    (map (lowered 0) front) =
    come_moved den (step ∷ steps) (c ∷ choices) steps choices (IsFree step)
    (λ e. e.head.demands - 0) met front are_free (rw (none_lowered front) one.exact) in
    rw parts_are (come_to_both den (step ∷ steps) (c ∷ choices) (step ∷ steps) (c ∷ choices) front
    sums rest rest (grind (arith, none_lowered)) (record { exact = parts.1; sums = λ k. refl }))

pub summed_sums : (t : Terms) (n step : ℕ) (faster : List ℕ) (free all : ℕ)
    (none first old sums new : List Term) → step ≡ product (spans faster)
    → CountsBelow t.demands.items step free → all ≡ length t.demands.items → none ≡ []
    → first ≡ none ++ map (lowered 0) (part 0 free (all_terms t)) → old ≡ []
    → HasSums faster 0 first old sums
    → new ≡ sums ++ map (lowered 0) (part free all (all_terms t))
    → AddUpTo (n ∷ faster) (all_terms t) new
summed_sums t n step faster free all none first old sums new step_is counts all_is none_is first_is
    old_is h new_is =
    let es = all_terms t in
    let first_part : first ≡ part 0 free es = rw (none_is, none_lowered) at first_is in
    let whole : es ≡ part 0 free es ++ part free all es =
    cc (cut es 0 free (omega arith), take_rest es free, terms_count t, all_is) in
    let are_free = range (IsFree step) t 0 free (omega arith) counts.bound
    (λ k at. counts.below k) in
    let new_part : new ≡ sums ++ part free all es = rw none_lowered at new_is in
    rw new_part (front_adds_up n faster es (part 0 free es) (part free all es) sums
    whole (subst (λ (s : ℕ). AllByRecursion (IsFree s) (part 0 free es)) step_is are_free)
    (rw (first_part, old_is) at h))

-- ---- profiles

pub settled_summed : (asked : Asked) (terms list : Terms) (digits : List Digit) (run : Run)
    → SettleBy asked terms digits run
    → AddUpTo (actions_at digits) (all_terms terms) (all_terms list)
    → AreAlike list terms → AreInOrder list → SettleBy asked list digits run
settled_summed asked terms list digits run by add_up alike order = record {
  are_terms = (order, alike.0 ∙ by.are_terms.1);
  steps = by.steps;
  within = by.within;
  count = by.count;
  settles = λ i from to.
      let before = by.settles i from to in record {
        from = before.from;
        to = before.to;
        settles = λ k less den above within exact small.
            let number = get_or asked.numbers.now i 0 - run.first in
            let come = add_up den (get_or (all_choices (actions_at digits)) number [])
            (choice_at_number (actions_at digits) number before.to) exact in
            grind arith;
      };
}
