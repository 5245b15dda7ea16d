-- A search for first strategies, choice by choice: what is below the choices so far, and what it
-- finds where it goes no further. And the labels of those that were found, come to in the same way.
use Rattle.gf_form.proofs.Common
use Common.{mul-div_cancel_left, div-lt_iff_lt-mul, mul-le-mul_right, nil_from_length, ArePositive}
use Common.{AllByRecursion, is_relevant_at, length-take-le, mod-mod_of_dvd, AreFirstBelow, IsFirst}
use Common.{action_counts, if◌then◌else◌, ChooseInTurn, dvd-mul_left, all_choices, digits_from, []}
use Common.{div-mul-add, get_or-take, length-drop, mod-mul-add, AreFoundTo, IsChosenAt, IsSearched}
use Common.{actions_of, can_be_met, cases_Bool, choices_at, is_settled, strategies, mul_assoc, inl}
use Common.{nat_tests, OwnDigit, and-true, cases_lt, digit_at, list_any, numbered, steps_to, Level}
use Common.{IsLevel, is_left, product, IsFine, get_or, is_met, length, mod-lt, nat_lt, Marks, Bool}
use Common.{Visit, arith, false, subst, Game, List, drop, refl, take, true, zero, ◌&&◌, ◌==◌, ◌||◌}
use Common.{inr, suc, sym, ◌%◌, ◌*◌, ◌+◌, ◌-◌, ◌/◌, ◌<◌, ◌^◌, ◌∙◌, ◌∣◌, ◌∷◌, ◌≡◌, ◌≤◌, ap, ℕ}
use Rattle.gf_form.specs.inner.reduced.Search.{IsPlayer}
use Rattle.gf_form.specs.declared.reduced.first.Player.{Player}
use Rattle.gf_form.proofs.lemmas.rows.GameDigits.{choice_at_number}
use Rattle.gf_form.proofs.lemmas.strategies.CountedActions.{product_positive, action_within}
use Rattle.gf_form.proofs.lemmas.strategies.Chosen.{length-all_choices, long}
use Rattle.gf_form.proofs.lemmas.reduced.FirstStrategies.{passed_by, repeated}
use Rattle.gf_form.proofs.lemmas.rows.Digits.{next_is}
use Rattle.gf_form.proofs.lemmas.strategies.StrategiesByNumber.{choices_next}

pub steps_positive : (digits : List OwnDigit) → AllByRecursion IsFine digits
    → ArePositive (steps_to digits)
steps_positive [] h = tt
steps_positive (d ∷ digits) h = (h.0.step, steps_positive digits h.1)

-- ---- choices in turn

actions_positive : (digits : List OwnDigit) → AllByRecursion IsFine digits
    → ArePositive (actions_of digits)
actions_positive [] h = tt
actions_positive (d ∷ digits) h = (h.0.actions, actions_positive digits h.1)

module _ {g : Game} {player count : ℕ} {d : OwnDigit} {faster : List OwnDigit}
    (turn : ChooseInTurn g player (d ∷ faster) count) where
  abbrev each : ℕ
  each = count / d.actions

  pub some_each : 0 < product (actions_of faster)
  some_each = product_positive (actions_of faster) (actions_positive faster turn.fine.1)

  each_is : each ≡ product (actions_of faster)
  each_is = grind (arith, mul-div_cancel_left, turn.counted, turn.fine.0.actions)

  pub each_some : 0 < each
  each_some = omega (arith, each_is, some_each)

  pub count_some : 0 < count
  count_some = grind (arith, product_positive, actions_positive)

  parts : (n : ℕ) → n < length (strategies g player) → choices_at g player (d ∷ faster) n
      ≡ (n % count / each + 1) ∷ get_or (all_choices (actions_of faster)) (n % each) []
  parts n within =
      let below : n % count < d.actions * product (actions_of faster) = omega (
        arith,
        mod-lt n count_some,
        turn.counted,
      ) in
      let whole : count ≡ d.actions * each = cc (turn.counted, each_is) in
      let same : n % count % each ≡ n % each = mod-mod_of_dvd each n (subst (λ (m : ℕ). each ∣ m)
      (sym whole) (dvd-mul_left each d.actions)) in
      grind (arith, each_is, choices_next, some_each)

  -- the action at the digit
  pub chosen_here : (n : ℕ) → n < length (strategies g player)
      → get_or (numbered g player n) d.place 0 ≡ n % count / each + 1
  chosen_here n within = ap (λ (l : List ℕ). get_or l 0 0) (parts n within)

  pub turn_next : ChooseInTurn g player faster each
  turn_next = grind (arith, each_is, parts)

  pub action_fits : (n before : ℕ) → before ≡ n % count / each
      → (before + 1) * d.step + d.step < 2 ^ 64
  action_fits n before is =
      grind (arith, div-lt_iff_lt-mul, mod-lt, each_some, count_some, each_is, mul-le-mul_right)

  pub some_actions : 0 < d.actions
  some_actions = turn.fine.0.actions

  rows_are : d.actions * each ≡ count
  rows_are = rw each_is (sym turn.counted)

  pub step_fits : (a : ℕ) → a ≤ d.actions → a * d.step + d.step < 2 ^ 64
  step_fits a le = omega (arith, turn.fine.0.fits, mul-le-mul_right d.step le)

-- ---- the digit at a depth

digit_here : (all : List OwnDigit) (depth : ℕ) (d : OwnDigit) (faster : List OwnDigit)
    → drop depth all ≡ d ∷ faster
    → (depth < length all) × (drop (depth + 1) all ≡ faster) × (digit_at all depth ≡ d)
digit_here all depth d faster left =
    let within : depth < length all = omega (arith, ap length left, length-drop depth all) in
    let none : OwnDigit = record { place = 0; step = 0; actions = 0 } in
    let there = next_is all depth (digit_at all depth) none within refl in (within, (cc), (cc))

settled_more : (r : Bool) (a j depth before : ℕ) → (j ≡ depth → a ≡ before + 1)
    → (r || (nat_lt j (depth + 1) && a == 1))
    ≡ ((r || (nat_lt j depth && a == 1)) || (before + 1 == 1 && j == depth))
settled_more r a j depth before same = grind (arith, nat_tests)

module _ {p : Player} {d : OwnDigit} {faster : List OwnDigit} {level : Level}
    {depth number count : ℕ} (below : IsSearched p (d ∷ faster) level depth number count) where
  abbrev row : ℕ
  row = count / d.actions

  left_over : (n : ℕ) → number ≤ n → n < number + count → n % count ≡ n - number
  left_over n from to =
      let is : n ≡ below.row * count + (n - number) = omega (arith, below.start, from) in
      ap (λ m. m % count) is ∙ mod-mul-add below.row count (n - number) (omega (arith, from, to))

  -- an action other than the first is chosen after the first row
  moved : (n : ℕ) → number + row ≤ n → n < number + count
      → ¬ (get_or (numbered p.game.now p.number n) d.place 0 ≡ 1)
  moved n from to first =
      let here = chosen_here below.turn n (omega (arith, to, below.end)) in
      let low : n % count / row < 1 = omega (arith, here, first) in
      let upto = (div-lt_iff_lt-mul (each_some below.turn)).0 low in
      omega (arith, upto, left_over n (omega (arith, from)) to, from)

  row_end : (before : ℕ) → before < d.actions → before * row + row ≤ count
  row_end before less = grind (arith, rows_are below.turn, mul-le-mul_right)

  chosen_there : (before n : ℕ) → before < d.actions → number + before * row ≤ n → n < number
      + before * row + row → get_or (numbered p.game.now p.number n) d.place 0 ≡ before + 1
  chosen_there before n less from to =
      let end = row_end before less in
      let here = chosen_here below.turn n (omega (arith, to, end, below.end)) in
      let over = left_over n (omega (arith, from)) (omega (arith, to, end)) in
      grind (arith, div-mul-add)

  pub next_searched : (before : ℕ) → before < d.actions → {left : Level}
      → IsLevel (length level.known.items) left → {action : ℕ} → action ≡ before + 1
      → IsChosenAt depth d.step action level left
      → IsSearched p faster left (depth + 1) (number + before * row) row
  next_searched before less levelled is chosen =
      let here = digit_here p.digits.items depth d faster below.rest in
      let rows = ap (λ n. below.row * n) (sym (rows_are below.turn))
      ∙ sym (mul_assoc below.row d.actions row) in
      let end = row_end before less in record {
        rest = here.1;
        deep = omega (arith, here.0);
        turn = turn_next below.turn;
        row = below.row * d.actions + before;
        start = grind (arith, below.start, rows);
        end = omega (arith, end, below.end);
        few = below.few;
        levelled = rw below.levelled.counted at levelled;
        tells = λ n j from to among.
            let there = chosen_there before n less from to in
            let left_is = chosen j (steps_to faster) (choices_at p.game.now p.number faster n)
            (omega (arith, among, below.levelled.counted)) (steps_positive faster below.turn.fine.1) in
            let old = below.tells n j (omega (arith, from)) (omega (arith, to, end)) among in
            let q = (digit_at p.digits.items j).place in
            let more = settled_more (is_relevant_at p.game.now p.number n q)
            (get_or (numbered p.game.now p.number n) q 0) j depth before in
            grind (arith, there, left_is, old, more, is, here.2);
      }

-- ---- sets that can be met

unmet_by : (place : ℕ) (steps choices : List ℕ) (visits : List Visit)
    → list_any (λ (v : Visit). v.set == place) visits ≡ false
    → is_met place steps choices visits ≡ false
unmet_by place steps choices [] e = refl
unmet_by place steps choices (v ∷ visits) e = grind (arith, unmet_by place steps choices visits)

-- with no digit left, each visit comes about
pub left_all : (place : ℕ) (level : Level) → is_left place [] [] level ≡ can_be_met place level
left_all place level = grind (arith, and-true)

-- ---- digits

-- a set with several actions has a digit
digit_there : (p : ℕ) (counts : List ℕ) (k : ℕ) → k < length counts → 1 < get_or counts k 0
    → (j : ℕ) × (j < length (digits_from p counts))
    × ((digit_at (digits_from p counts) j).place ≡ p + k)
digit_there p (suc (suc n) ∷ counts) (suc k) less several =
    let later = digit_there (p + 1) counts k (omega (arith, less)) several in
    (suc later.0, omega (arith, later.1), omega (arith, later.2))
digit_there p (n ∷ counts) (suc k) less several =
    grind (arith, digit_there (p + 1) counts k (omega (arith, less)) several)
digit_there p counts k less several = grind arith

-- its set is one of the player's
pub digit_inside : (p : ℕ) (counts : List ℕ) (j : ℕ) → j < length (digits_from p counts)
    → (digit_at (digits_from p counts) j).place < p + length counts
digit_inside p (n ∷ counts) zero less = grind (arith, digit_inside (p + 1) counts 0)
digit_inside p (n ∷ counts) (suc j) less =
    grind (arith, digit_inside (p + 1) counts j, digit_inside (p + 1) counts (suc j))
digit_inside p [] j less = absurd (omega (arith, less))

-- ---- first strategies

module _ {p : Player} (is : IsPlayer p) where
  abbrev g : Game
  g = p.game.now

  abbrev digits : List OwnDigit
  digits = p.digits.items

  abbrev counts : List ℕ
  counts = action_counts g p.number

  abbrev all : List (List ℕ)
  all = strategies g p.number

  -- the only action at a set
  pub alone : (n q : ℕ) → n < length all → q < length counts → get_or counts q 0 ≤ 1
      → get_or (numbered g p.number n) q 0 ≡ 1
  alone n q within among one =
      grind (arith, action_within, choice_at_number, length-all_choices, long)

  pub place_inside : (j : ℕ) → j < length digits → (digit_at digits j).place < length counts
  place_inside j less = grind (arith, digit_inside 0 counts j, is.digits)

  settled_first : (depth n : ℕ) → n < length all
      → ((j : ℕ) → j < length digits → is_settled g p.number digits depth n j ≡ true)
      → IsFirst g p.number n
  settled_first depth n within settled q less unset =
      elim (cases_lt 1 (get_or counts q 0)) [
        | inl several ↦
            let d = rw (sym is.digits) at (digit_there 0 counts q less several) in
            grind (arith, settled d.0 d.1, d.2, unset)
        | inr one ↦ alone n q within less one
      ]

  module _ {left : List OwnDigit} {level : Level} {depth number count : ℕ}
      (below : IsSearched p left level depth number count) where
    within_all : (n : ℕ) → n < number + count → n < length all
    within_all n to = omega (arith, to, below.end)

    -- all sets of digits are known to be met
    pub known_firsts : ((k : ℕ) → k < length level.known.items
        → get_or level.known.items k false ≡ true) → AreFirstBelow g p.number number count
    known_firsts known n from to =
        settled_first depth n (within_all n to)
        (λ j early. below.tells n j from to early
        ∙ grind (arith, known j, below.levelled.counted))

    module _ {met : List Bool} (marks : Marks level met) where
      unmet_flag : (n j : ℕ) → number ≤ n → n < number + count → j < length digits
          → get_or met j false ≡ false → is_settled g p.number digits depth n j ≡ false
      unmet_flag n j from to among unmet =
          below.tells n j from to among
          ∙ (grind (arith, unmet_by, sym (marks.marked j (omega (arith, among, below.levelled.counted))) ∙ unmet))

      taken : length (take depth met) ≡ depth
      taken = grind (arith, length-take-le)

      -- none is found if a set cannot be met at which a digit is chosen
      pub none_found : (j : ℕ) × (j < length (take depth met))
          × (get_or (take depth met) j false ≡ false) → (numbers : List ℕ)
          → AreFoundTo g p.number numbers number → AreFoundTo g p.number numbers (number + count)
      none_found (j, inside, shut) numbers found =
          let early : j < depth = omega (arith, inside, taken) in
          let among : j < length digits = omega (arith, early, below.deep) in
          passed_by g is.is_game p.number numbers number count found below.end
          (λ n from to. (repeated g is.is_game p.number n (digit_at digits j).place (within_all n
          to) (place_inside j among)
          (grind (
            arith,
            (unmet_flag n j from to among (sym (get_or-take depth met j false early) ∙ shut)),
          ))
          (grind (
            arith,
            nat_tests,
            (unmet_flag n j from to
                among (sym (get_or-take depth met j false early) ∙ shut)),
          ))))

      -- if no digit is left, and all sets are met, the only one is found
      pub last_firsts : left ≡ []
          → ((k : ℕ) → k < length (take depth met) → get_or (take depth met) k false ≡ true)
          → AreFirstBelow g p.number number count
      last_firsts none all_met n from to =
          let end : length digits ≤ depth =
          omega (arith, ap length (below.rest ∙ none), length-drop depth digits) in
          settled_first depth n (within_all n to) (grind (arith, left_all, get_or-take, taken))

  -- all are found if only the first action was tried at a digit whose set cannot be met
  pub all_found : {d : OwnDigit} {faster : List OwnDigit} {level : Level}
      {depth number count : ℕ}
      (below : IsSearched p (d ∷ faster) level depth number count)
      {met : List Bool} (marks : Marks level met) (tried : ℕ)
      → tried ≡ (if get_or met depth false then d.actions else 1) → (numbers : List ℕ)
      → AreFoundTo g p.number numbers (number + tried * (count / d.actions))
      → AreFoundTo g p.number numbers (number + count)
  all_found {d} {faster} {level} {depth} {number} {count} below {met} marks tried tried_is numbers
      found =
      let row = count / d.actions in
      let here = digit_here digits depth d faster below.rest in
      elim (cases_Bool (get_or met depth false)) [
        | inl e ↦ rw (rows_are below.turn) at (rw (tried_is, e) at found)
        | inr e ↦
            let one : number + 1 * row ≡ number + row = omega arith in
            let some = some_actions below.turn in
            let end : number + row + (count - row) ≡ number + count =
            omega (arith, rows_are below.turn, some, mul-le-mul_right row some) in
            rw end at (passed_by g is.is_game p.number numbers (number + row) (count - row)
            (rw one at (rw (tried_is, e) at found)) (omega (arith, end, below.end))
            (λ n from to.
            let before_end : n < number + count = omega (arith, to, end) in
            let within : n < length all = omega (arith, before_end, below.end) in
            let flag = unmet_flag below marks n depth (omega (arith, from)) before_end here.0 e in
            let at : (digit_at digits depth).place ≡ d.place =
            ap (λ (d : OwnDigit). d.place) here.2 in
            repeated g is.is_game p.number n d.place within
            (subst (λ (q : ℕ). q < length counts) at (place_inside depth here.0))
            (grind (arith, flag, at))
            (moved below n from before_end)))
      ]

pub ruleset search_steps = (some_actions, step_fits, nil_from_length)
