-- The digits of one player's sets, and their visits to these; a search for first strategies, and
-- that for their labels, before the first choice; and what the player has at the end.
use Rattle.gf_form.proofs.Common
use Common.{recursion_from_All, mul-le-mul_right, slice_get-get_or, All-from_get_or, FindRelevance}
use Common.{AllByRecursion, is_relevant_at, action_counts, ChooseInTurn, append_assoc, AreFirstsOf}
use Common.{mod-eq_of_lt, ArePositive, HoldTheSame, digits_from, digits_with, get_or-drop, AreTold}
use Common.{is_relevant, player_keys, steps_after, AreFoundTo, IsSearched, actions_of, choices_at}
use Common.{get_or-map, strategies, choice_at, drop-drop, is_met_on, nat_tests, OwnDigit, digit_at}
use Common.{numbered, steps_of, steps_to, IsLevel, is_left, product, AreOwn, IsFine, IsTold, Found}
use Common.{SetKey, get_or, is_met, length, nat_lt, picked, Level, Visit, arith, false, subst, map}
use Common.{width, Game, List, drop, refl, take, ◌&&◌, ◌++◌, ◌||◌, suc, sym, ◌*◌, ◌+◌, ◌<◌, ◌^◌, ℕ}
use Common.{◌∙◌, ◌∷◌, ◌≡◌, ◌≤◌, [], ap}
use Rattle.gf_form.specs.inner.reduced.Search.{IsPlayer}
use Rattle.gf_form.specs.declared.reduced.first.Player.{Player}
use Rattle.gf_form.proofs.lemmas.rows.Digits.{width_positive, steps_long, next_is}
use Rattle.gf_form.proofs.lemmas.reduced.LevelsChosen.{no_visit}
use Rattle.gf_form.proofs.lemmas.reduced.Searches.{place_inside}
use Rattle.gf_form.proofs.lemmas.reduced.MarkedSets.{no_found}
use Rattle.gf_form.proofs.lemmas.rows.GameDigits.{choice_at_number, product_picked, width_fits}
use Rattle.gf_form.proofs.lemmas.rows.GameDigits.{picked_at}
use Rattle.gf_form.proofs.lemmas.strategies.Chosen.{length-all_choices, choice_length}
use Rattle.gf_form.proofs.lemmas.strategies.CountedActions.{actions_positive, sets_counted}
use Rattle.gf_form.proofs.lemmas.strategies.StrategiesByNumber.{all_at}
use Rattle.gf_form.proofs.lemmas.strategies.CountedActions.{take_past}

-- the digits so far and those to come
pub digit_more : (counts steps : List ℕ) (i step : ℕ) (made next : List OwnDigit) → steps
    ≡ steps_after 1 counts → i < length counts → 1 < get_or counts i 0 → step ≡ get_or steps i 0
    → next ≡ made ++ record { place = i; step = step; actions = get_or counts i 0 } ∷ [] → made
    ++ digits_with i (drop i counts) (drop i steps) ≡ digits_with 0 counts steps → next
    ++ digits_with (i + 1) (drop (i + 1) counts) (drop (i + 1) steps) ≡ digits_with 0 counts steps
digit_more counts steps i step made next are less several step_is is before =
    let long : i < length steps = omega (arith, ap length are, steps_long 1 counts) in
    let count = next_is counts i (get_or counts i 0) 0 less refl in
    grind (arith, append_assoc, next_is)

pub digit_past : (counts steps : List ℕ) (i : ℕ) (made next : List OwnDigit) → steps
    ≡ steps_after 1 counts → i < length counts → get_or counts i 0 ≤ 1 → next ≡ made → made
    ++ digits_with i (drop i counts) (drop i steps) ≡ digits_with 0 counts steps → next
    ++ digits_with (i + 1) (drop (i + 1) counts) (drop (i + 1) steps) ≡ digits_with 0 counts steps
digit_past counts steps i made next are less one is before =
    let long : i < length steps = omega (arith, ap length are, steps_long 1 counts) in
    let count = next_is counts i (get_or counts i 0) 0 less refl in
    let there = next_is steps i (get_or steps i 0) 0 long refl in
    grind (arith, count, there)

pub ruleset own_digit_steps = (width_fits, steps_long, digit_more, digit_past)

-- ---- visits in turn

-- the visits before this one are there, and it is if it is to the set of one of the first k digits
abbrev pub AreOwnTo : List OwnDigit → List Visit → ℕ → ℕ → List Visit → Type 0
AreOwnTo digits visits i k own = (j : ℕ) (steps choices : List ℕ) → j < length digits
    → is_met j steps choices own
    ≡ (is_met (digit_at digits j).place steps choices (take i visits) || (nat_lt j k
    && is_met_on (digit_at digits j).place steps choices (get_or visits i no_visit)))

-- ---- what the digits are together

actions_from : (p : ℕ) (counts : List ℕ) → actions_of (digits_from p counts) ≡ picked counts counts
actions_from p [] = refl
actions_from p (n ∷ counts) = grind (arith, actions_from (p + 1) counts)

steps_from : (p : ℕ) (counts : List ℕ)
    → map (λ d. d.step) (digits_from p counts) ≡ steps_of (picked counts counts)
steps_from p [] = refl
steps_from p (n ∷ counts) = grind (arith, steps_from (p + 1) counts)

places_from : (all rest : List ℕ) (p : ℕ) (counts : List ℕ) → drop p all ≡ rest → length rest
    ≡ length counts → map (λ d. get_or all d.place 0) (digits_from p counts) ≡ picked counts rest
places_from all rest p [] is long = grind arith
places_from all [] p (n ∷ counts) is long = absurd (omega (arith, long))
places_from all (x ∷ rest) p (n ∷ counts) is long =
    grind (
      arith,
      get_or-drop p all 0 0,
      places_from all rest (p + 1) counts (sym (drop-drop 1 p all) ∙ ap (drop 1) is)
          (omega (arith, long)),
    )

digits_fine : (p : ℕ) (counts : List ℕ) → ArePositive counts → width counts < 2 ^ 64
    → AllByRecursion IsFine (digits_from p counts)
digits_fine p [] h fits = tt
digits_fine p (suc (suc n) ∷ counts) h fits =
    let whole : (suc (suc n) + 1) * width counts ≡ suc (suc n) * width counts + width counts =
    omega arith in
    grind (arith, width_positive, digits_fine (p + 1) counts h.1 (omega (arith, fits, whole)))
digits_fine p (n ∷ counts) h fits = digits_fine (p + 1) counts h.1 fits

-- there are fewer than strategies
pub few_digits : (p : ℕ) (counts : List ℕ) → ArePositive counts
    → length (digits_from p counts) < product counts
few_digits p [] h = omega arith
few_digits p (suc (suc n) ∷ counts) h =
    grind (arith, mul-le-mul_right, few_digits (p + 1) counts h.1)
few_digits p (n ∷ counts) h = grind (arith, few_digits (p + 1) counts h.1)

-- ---- before the first choice

module _ {p : Player} (is : IsPlayer p) (few : p.whole < 2 ^ 32) where
  abbrev g : Game
  g = p.game.now

  abbrev digits : List OwnDigit
  digits = p.digits.items

  abbrev counts : List ℕ
  counts = action_counts g p.number

  abbrev keys : List SetKey
  keys = player_keys g p.number

  no_key : SetKey
  no_key = record { player = 0; number = 0 }

  actions_are : actions_of digits ≡ picked counts counts
  actions_are = ap actions_of is.digits ∙ actions_from 0 counts

  choices_are : (n : ℕ) → n < product counts
      → choices_at g p.number digits n ≡ picked counts (numbered g p.number n)
  choices_are n less =
      ap (map (λ (d : OwnDigit). get_or (numbered g p.number n) d.place 0)) is.digits
      ∙ places_from (numbered g p.number n) (numbered g p.number n) 0 counts refl
      (choice_length counts (numbered g p.number n) (choice_at_number counts n less))

  pub all_in_turn : ChooseInTurn g p.number digits p.whole
  all_in_turn =
      grind (
        arith,
        actions_positive,
        length-all_choices,
        digits_fine,
        width_fits,
        product_picked,
        actions_are,
        choices_are,
        picked_at,
        mod-eq_of_lt,
      )

  module _ {visits : List Visit} (find : FindRelevance g p.number visits) (level : Level)
      (unknown : (place : ℕ) → get_or level.known.items place false ≡ false) where
    -- a set is relevant if some visit to it comes about; the level has these, to other places
    told_by : (own : List Visit) → HoldTheSame own level.visits.items → (n place q : ℕ)
        → n < 0 + p.whole → place < length keys
        → is_met q (steps_to digits) (choices_at g p.number digits n) own
        ≡ is_met place (steps_to digits) (choices_at g p.number digits n) visits
        → is_relevant_at g p.number n place
        ≡ is_left q (steps_to digits) (choices_at g p.number digits n) level
    told_by own held n place q to among same =
        let within : n < product counts = omega (arith, to, is.whole) in
        let steps_are = ap steps_to is.digits ∙ steps_from 0 counts in
        get_or-map (is_relevant g (choice_at keys (numbered g p.number n))) keys place no_key false
        among
        ∙ find.relevant (numbered g p.number n) place (get_or keys place no_key)
        (choice_at_number counts n within) (slice_get-get_or keys place no_key among)
        ∙ (λ i. is_met place (sym steps_are i) (sym (choices_are n within) i) visits)
        ∙ sym same
        ∙ (λ i. sym (unknown q) i
        || sym (held (is_met_on q (steps_to digits) (choices_at g p.number digits n))) i)

    pub searched_all : (own : List Visit) → AreOwn digits visits own
        → HoldTheSame own level.visits.items → IsLevel (length digits) level
        → IsSearched p digits level 0 0 p.whole
    searched_all own own_are held levelled = record {
      rest = refl;
      deep = omega arith;
      turn = all_in_turn;
      row = 0;
      start = omega arith;
      end = omega (arith, is.whole, length-all_choices counts);
      few = omega (arith, is.whole, few, length-all_choices counts);
      levelled = levelled;
      tells = λ n j from to among.
          let inside = place_inside is j among in
          let relevant = told_by own held n (digit_at digits j).place j to
          (omega (arith, inside, sets_counted g p.number))
          (own_are j (steps_to digits) (choices_at g p.number digits n) among) in
          grind (arith, nat_tests, relevant);
    }

    pub told_all : HoldTheSame visits level.visits.items → IsLevel (length counts) level
        → (numbers : List ℕ) → AreFirstsOf g numbers p.number → (all : List Found)
        → length all ≡ length numbers → ((place : ℕ) (d : Found) → place < length numbers
        → get_or all place d ≡ record { place = place; number = get_or numbers place 0 })
        → AreTold g p.number digits numbers level all
    told_all held levelled numbers firsts all long each = record {
      levelled = rw (sym (sets_counted g p.number)) levelled;
      each = recursion_from_All (IsTold g p.number digits numbers level) all
          (All-from_get_or (IsTold g p.number digits numbers level) all no_found (λ i inside.
          let less : i < length numbers = omega (arith, inside, long) in
          let n = get_or numbers i 0 in
          let within = all_at (λ n. n < length (strategies g p.number)) numbers i 0 firsts.1 less in
          rw (each i no_found less) (record {
            there = less;
            number = refl;
            within = within;
            tells = λ place among. told_by visits held n place place
                (omega (arith, within, is.whole, length-all_choices counts)) among refl;
          })));
    }

-- ---- what is found, at first and at the end

pub none_found_yet : (g : Game) (player : ℕ) (numbers : List ℕ) → numbers ≡ []
    → AreFoundTo g player numbers 0
none_found_yet g player numbers none = grind arith

pub firsts_are : {p : Player} → IsPlayer p → (numbers : List ℕ)
    → AreFoundTo p.game.now p.number numbers p.whole → AreFirstsOf p.game.now numbers p.number
firsts_are {p} is numbers found =
    let whole = subst (AreFoundTo p.game.now p.number numbers) (is.whole ∙ sym (length-all_choices
    (action_counts p.game.now p.number))) found in
    grind (arith, take_past)

pub ruleset start_steps = (actions_positive, width_fits, few_digits, none_found_yet)
