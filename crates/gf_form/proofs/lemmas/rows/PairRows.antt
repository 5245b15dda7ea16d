-- What is left of terms once an action is chosen, and the profiles that it settles; the rows at the
-- fastest digit, as what at most two terms come to.
use Rattle.gf_form.proofs.Common
use Common.{mul-le-mul_right, asked_profiles, mul-div_cancel, full_profiles, strategies_at, IsScale}
use Common.{ArePayoffsAt, one_fraction, AreTermsFor, IsSpellable, all_choices, first_terms, Settles}
use Common.{AreNodesOf, AreWritten, HasPairRow, IsFraction, IsPaidPair, actions_at, choices_by, Run}
use Common.{AreChosen, AreMerged, HasValues, HaveSteps, SettlesAt, all_terms, SettleBy, take}
use Common.{all_both, at_place, cases_lt, steps_of, lowered, product, term_at, Chosen, IfSome, Game}
use Common.{IsGame, get_or, length, Asked, Digit, Ratio, Scale, Terms, arith, meets, spans, value}
use Common.{List, Some, Term, ints, lit<, part, true, zero, ◌++◌, inl, inr, map, ℕ, take_more}
use Common.{suc, ◌*◌, ◌+◌, ◌-◌, ◌/◌, ◌<◌, ◌^◌, ◌∙◌, ◌∷◌, ◌≡◌, ◌≤◌, ◌⊎◌, [], ap}
use Rattle.gf_form.proofs.lemmas.form.Forms.{one_row_more}
use Rattle.gf_form.specs.declared.rows.written.Written.{Written}
use Rattle.gf_form.specs.inner.rows.Pairs.{ComeToPair, only_term, IsOnly, IsPair}
use Rattle.gf_form.specs.declared.rows.pairs.Only.{Only}
use Rattle.gf_form.specs.declared.rows.pairs.Pair.{Pair}
use Rattle.gf_form.proofs.lemmas.rows.Digits.{spans_above}
use Rattle.gf_form.proofs.lemmas.rows.FlatRows.{all_by_place, terms_count, there}
use Rattle.gf_form.proofs.lemmas.rows.MergedTerms.{sum_append}
use Rattle.gf_form.proofs.lemmas.rows.FlatRows.{chosen_parts, part_next, part_past}
use Rattle.gf_form.proofs.lemmas.strategies.PickedProfiles.{numbered_at}
use Rattle.gf_form.proofs.lemmas.values.BottomUp.{are_payoffs, have_values}
use Rattle.gf_form.proofs.lemmas.strategies.StrategiesByNumber.{choices_row, positive_parts}

-- ---- profiles at which the choice at the slowest digit is the same

-- the choice of a number, from 0, at the slowest digit of this many actions, and the first number
-- with it
pub record IsChoiceOf (n count number before first : ℕ) : Type 0 where
  pub less : before < n
  pub from : first ≤ number
  pub to : number - first < count

pub settled_left : (g : Game) (number step action : ℕ) (steps choices : List ℕ)
    (es left : List Term) → AreMerged step action es left
    → Settles g number (step ∷ steps) (action ∷ choices) es → Settles g number steps choices left
settled_left g number step action steps choices es left merged settles k less den above within exact
    small = grind arith

settled_after : (g : Game) (n : ℕ) (ns : List ℕ) (terms left : Terms)
    (least number b first : ℕ) → SettlesAt g (n ∷ ns) terms least number → b < n
    → first ≡ least + b * product ns → first ≤ number → number - first < product ns
    → AreMerged (product (spans ns)) (b + 1) (all_terms terms) (all_terms left)
    → SettlesAt g ns left first number
settled_after g n ns terms left least number b first before less is from to merged = record {
  from = from;
  to = to;
  settles =
      let r = number - first in
      let whole : number - least ≡ b * product ns + r = omega (arith, is, from, before.from) in
      let choices : get_or (all_choices (n ∷ ns)) (number - least) []
      ≡ (b + 1) ∷ get_or (all_choices ns) r [] = cc (choices_row n ns b r less to) in
      settled_left g number (product (spans ns)) (b + 1) (steps_of ns)
      (get_or (all_choices ns) r []) (all_terms terms) (all_terms left) merged
      (rw choices at before.settles);
}

-- a digit, and the faster ones
pub first_step : (slowest : Digit) (faster : List Digit) → HaveSteps (slowest ∷ faster)
    → (slowest.step ≡ product (spans (actions_at faster))) × HaveSteps faster
first_step slowest faster have = grind arith

pub faster_within : (slowest : Digit) (faster : List Digit)
    → product (spans (actions_at (slowest ∷ faster))) < 2 ^ 64
    → product (spans (actions_at faster)) < 2 ^ 64
faster_within slowest faster within = grind (arith, mul-le-mul_right)

-- the same from a later profile on
pub settled_from : (asked : Asked) (terms : Terms) (digits : List Digit) (run rest : Run)
    → rest.first ≡ run.first → rest.count ≡ run.count → run.from ≤ rest.from → rest.to ≡ run.to
    → SettleBy asked terms digits run → SettleBy asked terms digits rest
settled_from asked terms digits run rest first count from to by = grind arith

-- the first of these profiles, and those with the same choice at the slowest digit
module _ (asked : Asked) {slowest : Digit} {faster : List Digit} {terms : Terms} (run : Run)
    (some : run.from < run.to) (by : SettleBy asked terms (slowest ∷ faster) run) {stride : ℕ}
    (stride_is : stride ≡ run.count / slowest.actions)
  where
    abbrev number : ℕ → ℕ
    number i = get_or asked.numbers.now i 0

    abbrev ns : List ℕ
    ns = actions_at faster

    here : SettlesAt asked.game.now (slowest.actions ∷ ns) terms run.first (number run.from)
    here = by.settles run.from (omega arith) some

    stride_product : stride ≡ product ns
    stride_product = grind (arith, positive_parts, here, mul-div_cancel)

    pub some_stride : 0 < stride
    some_stride = grind (arith, positive_parts, stride_product)

    module _ {before : ℕ} (before_is : before ≡ (number run.from - run.first) / stride) where
      abbrev first : ℕ
      first = run.first + before * stride

      choice : IsChoiceOf slowest.actions stride (number run.from) before first
      choice = grind (arith, stride_product)

      pub step_within : (before + 1) * slowest.step + slowest.step < 2 ^ 64
      step_within = grind (arith, choice, mul-le-mul_right, first_step)

      pub settled_next : (to : ℕ) (left : Terms)
          → AreMerged slowest.step (before + 1) (all_terms terms) (all_terms left)
          → AreTermsFor asked left → to ≤ run.to
          → ((i : ℕ) → run.from + 1 ≤ i → i < to
          → (first ≤ number i) × (number i < first + stride))
          → SettleBy asked left faster
          (record { first = first; count = stride; from = run.from; to = to })
      settled_next to left merged terms_are most alike =
          let step = first_step slowest faster by.steps in record {
            are_terms = terms_are;
            steps = step.1;
            within = faster_within slowest faster by.within;
            count = stride_product;
            settles = λ i more less.
                let range = at i more less (cases_lt run.from i) in
                settled_after asked.game.now slowest.actions ns terms left run.first (number i)
                before first (by.settles i more (omega (arith, less, most))) choice.less
                (ap (λ (s : ℕ). run.first + before * s) stride_product) range.0
                (omega (arith, range.0, range.1, stride_product))
                (rw step.0 at merged);
          }
        where
          at : (i : ℕ) → run.from ≤ i → i < to → (run.from < i) ⊎ (i ≤ run.from)
              → (first ≤ number i) × (number i < first + stride)
          at i more less (inl h) = alike i (omega (arith, h)) less
          at i more less (inr h) = grind (arith, choice)

-- ---- one term, or none

pub one_only : (t : Terms) (start end : ℕ) (only : Only) → end ≤ length t.demands.items
    → start < end → end - start ≤ 1 → only.head ≡ (term_at t start).head
    → only.numbers.now ≡ (term_at t start).row → IsOnly (part start end (all_terms t)) only
one_only t start end only within some one head row den less above divides =
    let count = terms_count t in
    let all : part start end (all_terms t) ≡ only_term only ∷ [] =
    grind (arith, part_next, part_past, there) in
    grind arith

-- ---- two terms

pub come_to_pair : (frees owns : List Term) (first second : Only) (s : Scale)
    → IsOnly frees first → IsOnly owns second → IsScale first.head second.head s
    → 0 < s.den → s.den < 2 ^ 127 → s.size < 2 ^ 127 → (less : ℕ)
    → ComeToPair [] [] (map (lowered 0) frees ++ map (lowered less) owns)
    (record { scale = s; first = first.numbers; second = second.numbers })
come_to_pair frees owns first second s only_first only_second is above within small less =
    grind (arith, sum_append, all_both, ints)

-- ---- what is paid

paid : (g : Game) (number : ℕ) (steps choices : List ℕ) (es : List Term) (pair : Pair)
    → Settles g number steps choices es → ComeToPair steps choices es pair
    → IsPaidPair g number pair
paid g number steps choices es pair settles come = grind arith

-- by terms at the fastest digit, of which these count
pub paid_pair : (g : Game) (ns : List ℕ) (from : Terms) (least number action : ℕ)
    (chosen : Chosen) (pair : Pair) → length ns ≡ 1 → SettlesAt g ns from least number
    → action ≡ number - least + 1 → AreChosen from.demands.items 1 action chosen
    → IsPair from chosen pair → IsPaidPair g number pair
paid_pair g (n ∷ []) from least number action chosen pair one before is are come =
    let r = number - least in
    let there : r < n = let to = before.to in omega (arith, to) in
    let whole : r ≡ r * 1 + 0 = omega arith in
    let choices : get_or (all_choices (n ∷ [])) r [] ≡ action ∷ [] =
    cc (choices_row n [] r 0 there (lit< tt)) in
    paid g number [] [] _ pair (settled_left g number 1 action [] [] (all_terms from) _
    (chosen_parts from 1 action (omega (arith, is)) chosen are) (rw choices at before.settles))
    (come (action * 1))
paid_pair g ns from least number action chosen pair one before is are come = grind arith

-- a term that demands nothing is met by all choices
pub free_met : (ns choices : List ℕ) → meets (steps_of ns) choices 0 ≡ true
free_met (n ∷ ns) (c ∷ choices) = grind (arith, spans_above, free_met ns choices)
free_met ns choices = grind arith

all_come : (t : Terms) (n : ℕ) → n ≤ 1 → get_or t.demands.items 0 0 ≡ 0 → (ns choices : List ℕ)
    (pair : Pair) → ComeToPair [] [] (map (lowered 0) (part 0 n (first_terms t n))
    ++ map (lowered 0) (part n n (first_terms t n))) pair
    → ComeToPair (steps_of ns) choices (first_terms t n) pair
all_come t zero few none ns choices pair come = grind arith
all_come t (suc zero) few none ns choices pair come =
    let met = free_met ns choices in grind arith
all_come t (suc (suc n)) few none ns choices pair come = absurd (omega arith)

-- by at most one term, which demands nothing
pub paid_alike : (g : Game) (ns : List ℕ) (t : Terms) (least number all : ℕ) (pair : Pair)
    → length t.demands.items ≤ 1 → get_or t.demands.items 0 0 ≡ 0
    → all ≡ length t.demands.items → SettlesAt g ns t least number
    → IsPair t (record { action = 0; free = all; start = all; end = all }) pair
    → IsPaidPair g number pair
paid_alike g ns t least number all pair few none all_is before come =
    paid g number (steps_of ns) (get_or (all_choices ns) (number - least) []) (all_terms t) pair
    before.settles
    (all_come t (length t.demands.items) few none ns _ pair (rw all_is at (come 0)))

-- ---- one row more

-- the profile at a place
abbrev pub asked_at : Asked → ℕ → List ℕ
asked_at asked before = get_or (full_profiles asked.game.now) (get_or asked.numbers.now before 0) []

pub next_written : (asked : Asked) (before : ℕ) (written after : Written) (row : List Ratio)
    → before < length asked.numbers.now
    → ArePayoffsAt asked.game.now (asked_at asked before) row
    → HasValues asked.game.now (asked_at asked before)
    → after.rows.items ≡ written.rows.items ++ row
    → IfSome after.nodes (AreNodesOf asked.game.now)
    → AreWritten asked before written → AreWritten asked (before + 1) after
next_written asked before written after row within right values is nodes done =
    let g = asked.game.now in
    let profiles = asked_profiles asked in
    let at = numbered_at g asked.numbers.now before within in
    record {
      rows = grind (arith, one_row_more);
      values =
          (rw (take_more profiles before [] at.0) (all_both (HasValues g) (take before profiles)
          (get_or profiles before [] ∷ []) done.values ((rw at.1 values), tt)));
      nodes = nodes;
    }

-- what the pair comes to
pub next_row : (asked : Asked) → IsGame asked.game.now → IsSpellable asked.game.now
    → (before players : ℕ) (pair : Pair) (written after : Written) (old new : List Ratio)
    → before < length asked.numbers.now → players ≡ length asked.game.now.players
    → IsPaidPair asked.game.now (get_or asked.numbers.now before 0) pair
    → (more : HasPairRow pair players old new)
    → after.rows.items ≡ written.rows.items ++ more.row
    → after.nodes ≡ written.nodes
    → AreWritten asked before written → AreWritten asked (before + 1) after
next_row asked game spellable before players pair written after old new within all paid more is same
    done =
    let g = asked.game.now in
    let choices = choices_by g (strategies_at g (asked_at asked before)) in
    next_written asked before written after more.row within
    (are_payoffs g game spellable choices more.row (more.one_each ∙ all)
    (all_by_place IsFraction more.row
    (λ k d less. (more.each k d (omega (arith, less, more.one_each))).0)) values)
    (have_values g game spellable choices more.row values) is
    (rw same done.nodes) done
  where
    values : (k : ℕ) → k < length asked.game.now.players → value asked.game.now
        (choices_by asked.game.now (strategies_at asked.game.now (asked_at asked before))) (suc k)
        asked.game.now.tree ≡ Some (at_place more.row k)
    values k less =
        grind (arith, one_fraction)
