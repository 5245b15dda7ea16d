-- Which sets are marked as relevant under the strategies that were found: what a level leaves of them
-- after a choice, at a digit at which nothing is demanded, and if its visits are looked at in parts.
use Rattle.gf_form.proofs.Common
use Common.{list_any-IsPermutation, All-from_recursion, recursion_from_All, IsNonDecreasingBy, Bool}
use Common.{get_or-set_other, mul-le-mul_right, slice_get-get_or, take-append-drop, All-permutation}
use Common.{list_any-append, All-from_get_or, AllByRecursion, reduced_labels, IsPermutation, IsTold}
use Common.{action_counts, get_or-set_at, reduced_label, relevant_sets, ChooseInTurn, AreFirstsOf}
use Common.{HoldTheSame, div-mul-add, get_or-drop, get_or-take, is_relevant, length-drop, is_met_on}
use Common.{length-take, list_any_at, mod-mul-add, player_keys, can_be_met, length-set, all_weaker}
use Common.{cases_Bool, choices_at, ext_get_or, is_left_by, length-map, strategies, all_parts, Game}
use Common.{choice_at, map_twice, nat_tests, slice_get, AreFound, cases_eq, IsChosen, OwnDigit, map}
use Common.{list_any, numbered, or-false, steps_to, IsFound, AreTold, flag_at, or-true, product, ap}
use Common.{reduced, HasRow, IsGame, Marked, get_or, length, is_met, nat_lt, Found, Level, Visit, ℕ}
use Common.{arith, false, shown, List, Some, drop, refl, take, ◌&&◌, ◌++◌, ◌==◌, ◌||◌, set, sym, []}
use Common.{◌%◌, ◌*◌, ◌+◌, ◌-◌, ◌/◌, ◌<◌, ◌≡◌, ◌∙◌, ◌∷◌}
use Rattle.gf_form.specs.inner.reduced.Rows.{HasRoom}
use Rattle.std.proofs.lemmas.List.Folds.{list_any_none}
use Rattle.gf_form.specs.declared.reduced.labels.Relevance.{Relevance}
use Rattle.gf_form.proofs.lemmas.reduced.LevelsChosen.{any_in_two, no_visit}
use Rattle.gf_form.proofs.lemmas.reduced.Searches.{chosen_here, left_all, steps_positive}
use Rattle.gf_form.proofs.lemmas.strategies.Chosen.{length-all_choices, long}
use Rattle.gf_form.proofs.lemmas.strategies.StrategiesByNumber.{all_at}
use Rattle.gf_form.proofs.lemmas.reduced.FirstStrategies.{reduced_shown_at, flags_fit}

-- ---- lists

permuted : {A : Type 0} (P : A → Type 0) (xs ys : List A) → IsPermutation xs ys
    → AllByRecursion P xs → AllByRecursion P ys
permuted P xs ys same h =
    recursion_from_All P ys (All-permutation P xs ys same (All-from_recursion P xs h))

both : {A : Type 0} (P Q : A → Type 0) (xs : List A) → AllByRecursion P xs → AllByRecursion Q xs
    → AllByRecursion (λ x. P x × Q x) xs
both P Q [] p q = tt
both P Q (x ∷ xs) p q = ((p.0, q.0), both P Q xs p.1 q.1)

any_same : {A : Type 0} (P : A → Type 0) (f g : A → Bool) → ((x : A) → P x → f x ≡ g x)
    → (xs : List A) → AllByRecursion P xs → list_any f xs ≡ list_any g xs
any_same P f g h [] all = refl
any_same P f g h (x ∷ xs) all = λ i. h x all.0 i || any_same P f g h xs all.1 i

any_of_two : {A : Type 0} (f p q : A → Bool) (xs : List A)
    → list_any (λ x. f x && (p x || q x)) xs
    ≡ (list_any (λ x. f x && p x) xs || list_any (λ x. f x && q x) xs)
any_of_two f p q [] = refl
any_of_two f p q (x ∷ xs) = grind (arith, any_of_two f p q xs)

-- ---- what is left in a level

-- whatever is chosen at a digit at which no visit demands anything
free_met : (place step action : ℕ) (steps choices : List ℕ) (visits : List Visit)
    → AllByRecursion (λ v. v.demands < step) visits
    → is_met place (step ∷ steps) (action ∷ choices) visits ≡ is_met place steps choices visits
free_met place step action steps choices [] h = refl
free_met place step action steps choices (v ∷ visits) h =
    grind (arith, free_met place step action steps choices visits h.1)

all_below : (visits : List Visit) (step : ℕ) (last : Visit)
    → IsNonDecreasingBy (λ v. v.demands) visits → slice_get visits (length visits - 1) ≡ Some last
    → last.demands < step → AllByRecursion (λ v. v.demands < step) visits
all_below visits step last up is less =
    recursion_from_All (λ (v : Visit). v.demands < step) visits
    (All-from_get_or (λ (v : Visit). v.demands < step) visits no_visit (λ k inside.
    let upto = up k (length visits - 1) no_visit (omega (arith, inside)) (omega (arith, inside)) in
    grind (arith, upto, slice_get-get_or)))

-- ---- marks

abbrev pub no_found : Found
no_found = record { place = 0; number = 0 }

pub both_marked : {test : ℕ → Found → Bool} (before r after : Relevance) (done own : List Found)
    → Marked test done before r → Marked test own r after → Marked test (done ++ own) before after
both_marked before r after done own first second = grind (arith, list_any-append)

pub marked_alike : {p q : ℕ → Found → Bool} (P : Found → Type 0) (before after : Relevance)
    (all : List Found) → AllByRecursion P all → ((place : ℕ) (found : Found) → place < before.sets
    → P found → p place found ≡ q place found)
    → Marked p all before after → Marked q all before after
marked_alike {p} {q} P before after all holds same marked = record {
  sets = marked.sets;
  room = marked.room;
  flags = λ at place inside. marked.flags at place inside ∙ ap (λ b. flag_at before at place || b)
      (any_same P (λ f. f.place == at && p place f) (λ f. f.place == at && q place f)
      (λ f h. ap (λ b. f.place == at && b) (same place f inside h)) all holds);
}

pub marked_permuted : {test : ℕ → Found → Bool} (before after : Relevance)
    (all ordered : List Found) → IsPermutation all ordered → Marked test ordered before after
    → Marked test all before after
marked_permuted before after all ordered same marked = grind (arith, list_any-IsPermutation)

twice_marked : {p q : ℕ → Found → Bool} (before r after : Relevance) (all : List Found)
    → Marked p all before r → Marked q all r after
    → Marked (λ place f. p place f || q place f) all before after
twice_marked {p} {q} before r after all first second =
    let two = λ (at place : ℕ). any_of_two (λ f. f.place == at) (p place) (q place) all in
    grind (arith, two, first.flags, second.flags)

-- the flags of different strategies and sets stand at different places
apart : (sets at place other j : ℕ) → place < sets → j < sets
    → at * sets + place ≡ other * sets + j → (at ≡ other) × (place ≡ j)
apart sets at place other j inside there same = (
  sym (div-mul-add at sets place inside) ∙ ap (λ n. n / sets) same ∙ div-mul-add other sets j there,
  sym (mod-mul-add at sets place inside) ∙ ap (λ n. n % sets) same ∙ mod-mul-add other sets j there,
)

-- one flag more under one strategy
pub next_marked : (met : List Bool) (found : Found) (before r after : Relevance) (j : ℕ)
    → j < before.sets → HasRoom before found.place
    → Marked (λ place f. nat_lt place j && get_or met place false) (found ∷ []) before r
    → after.sets ≡ r.sets
    → after.flags.items ≡ set r.flags.items (found.place * before.sets + j)
    (get_or r.flags.items (found.place * before.sets + j) false || get_or met j false)
    → Marked (λ place f. nat_lt place (j + 1) && get_or met place false) (found ∷ []) before after
next_marked met found before r after j less room marked sets flags = record {
  sets = sets ∙ marked.sets;
  room = grind (arith, flags, length-set, marked.room);
  flags = λ at place inside.
      let x = found.place * before.sets + j in
      let same = apart before.sets at place found.place j inside less in
      grind (
        arith,
        nat_tests,
        cases_eq x (at * before.sets + place),
        cases_eq found.place at,
        cases_eq j place,
        same,
        flags,
        sets,
        marked.sets,
        marked.room,
        marked.flags at place inside,
        get_or-set_at,
        get_or-set_other,
        or-false,
        or-true,
      );
}

-- what was found among the player's strategies
module _ {g : Game} {player : ℕ} where
  pub found_permuted : {r : Relevance} (all ordered : List Found) → IsPermutation all ordered
      → AreFound g player r all → AreFound g player r ordered
  found_permuted all ordered same found = record { each = permuted _ all ordered same found.each }

  pub still_found : {test : ℕ → Found → Bool} {some : List Found} {before after : Relevance}
      → Marked test some before after → (all : List Found) → AreFound g player before all
      → AreFound g player after all
  still_found {test} {some} {before} {after} marked all found = grind (arith, all_weaker)

  pub part_found : {r : Relevance} (all done rest own : List Found) (k : ℕ) → all ≡ done ++ rest
      → own ≡ take k rest → AreFound g player r all → AreFound g player r own
  part_found {r} all done rest own k are is found =
      let two = all_parts (IsFound g player r) in
      grind (arith, two done rest, two (take k rest) (drop k rest), take-append-drop)

  pub found_told : {r : Relevance} {digits : List OwnDigit} {numbers : List ℕ} {level : Level}
      (all : List Found) → AreTold g player digits numbers level all
      → length r.flags.items ≡ length numbers * r.sets → AreFound g player r all
  found_told {r} {digits} {numbers} {level} all told room = record {
    each = all_weaker (IsTold g player digits numbers level) (IsFound g player r)
        (λ f h. record {
          within = h.within;
          room = omega (arith, room, mul-le-mul_right r.sets h.there);
        }) all told.each;
  }

  module _ {before after : Relevance} {all : List Found} (found : AreFound g player before all) where
    -- at the end each visit that is left comes about
    pub last_marked : (level : Level) → Marked (λ place f. can_be_met place level) all before after
        → Marked (is_left_by g player [] level) all before after
    last_marked level marked =
        marked_alike (IsFound g player before) before after all found.each
        (λ place f inside h. sym (left_all place level)) marked

    -- what is known, and the visits in two parts
    pub apart_marked : (digits : List OwnDigit) (k : ℕ) (level free own : Level)
        → HoldTheSame (take k level.visits.items) free.visits.items
        → HoldTheSame (drop k level.visits.items) own.visits.items
        → ((place : ℕ) → get_or free.known.items place false ≡ false)
        → ((place : ℕ) → get_or own.known.items place false ≡ false) → {r s : Relevance}
        → Marked (λ place f. get_or level.known.items place false) all before r
        → Marked (is_left_by g player digits free) all r s
        → Marked (is_left_by g player digits own) all s after
        → Marked (is_left_by g player digits level) all before after
    apart_marked digits k level free own first second unknown unknown_too {r} {s} one two three =
        marked_alike (IsFound g player before) before after all found.each
        (λ place f inside h.
        let test = is_met_on place (steps_to digits) (choices_at g player digits f.number) in
        grind (
          arith,
          first test,
          second test,
          unknown place,
          unknown_too place,
          any_in_two test level.visits.items k,
        ))
        (twice_marked before s after all (twice_marked before r s all one two) three)

    module _ {count : ℕ} {d : OwnDigit} {faster : List OwnDigit} (level : Level)
        (turn : ChooseInTurn g player (d ∷ faster) count) where
      pub free_marked : (last : Visit) → IsNonDecreasingBy (λ v. v.demands) level.visits.items
          → slice_get level.visits.items (length level.visits.items - 1) ≡ Some last
          → last.demands < d.step → Marked (is_left_by g player faster level) all before after
          → Marked (is_left_by g player (d ∷ faster) level) all before after
      free_marked last up is less marked =
          marked_alike (IsFound g player before) before after all found.each
          (λ place f inside h.
          grind (arith, free_met, all_below level.visits.items d.step last up is less)) marked

      pub chosen_marked : (b : ℕ) (left : Level) {action : ℕ} → action ≡ b + 1
          → IsChosen d.step action level left → before.sets ≡ length level.known.items
          → AllByRecursion (λ f. f.number % count / (count / d.actions) ≡ b) all
          → Marked (is_left_by g player faster left) all before after
          → Marked (is_left_by g player (d ∷ faster) level) all before after
      chosen_marked b left is chosen counted same marked =
          let Same = λ (f : Found). f.number % count / (count / d.actions) ≡ b in
          marked_alike (λ f. IsFound g player before f × Same f) before after all
          (both (IsFound g player before) Same all found.each same)
          (λ place f inside h.
          let left_is = chosen place (steps_to faster) (choices_at g player faster f.number)
          (omega (arith, inside, counted)) (steps_positive faster turn.fine.1) in
          let here = chosen_here turn f.number h.0.within in
          grind (arith, left_is, here, h.1, is)) marked

-- ---- rows

any_at : (p : Found → Bool) (all : List Found) (at : ℕ) → at < length all
    → ((k : ℕ) → k < length all → (get_or all k no_found).place ≡ k)
    → list_any (λ f. f.place == at && p f) all ≡ p (get_or all at no_found)
any_at p all at less placed =
    let none = list_any_none (λ f. f.place == at && p f) all in
    let each = All-from_get_or (λ f. (f.place == at && p f) ≡ false) all no_found in
    grind (arith, cases_Bool, cases_eq, list_any_at)

-- each strategy has a row if sets are marked under all that are listed
pub rows_marked : {g : Game} {player : ℕ} {digits : List OwnDigit} {numbers : List ℕ} {level : Level}
    (before after : Relevance) (all : List Found) → AreTold g player digits numbers level all
    → before.sets ≡ length (player_keys g player)
    → length before.flags.items ≡ length numbers * before.sets
    → ((k : ℕ) → get_or before.flags.items k false ≡ false) → length all ≡ length numbers
    → ((place : ℕ) (d : Found) → place < length numbers
    → get_or all place d ≡ record { place = place; number = get_or numbers place 0 })
    → Marked (is_left_by g player digits level) all before after
    → (at : ℕ) → at < length numbers → HasRow g player numbers after at
rows_marked {g} {player} {digits} {numbers} {level} before after all told sets room none long each
    marked at less =
    let one = all_at (IsTold g player digits numbers level) all at no_found told.each
    (omega (arith, less, long)) in
    let is = each at no_found less in record {
      counted = marked.sets ∙ sets;
      room = rw (marked.sets, marked.room) (omega (arith, room, mul-le-mul_right before.sets less));
      is = λ place inside.
          let here : place < before.sets = omega (arith, inside, marked.sets) in
          let left = any_at (is_left_by g player digits level place) all at (omega (arith, less, long))
          (λ k among. ap (λ (f : Found). f.place) (each k no_found (omega (arith, among, long)))) in
          let tells = one.tells place (omega (arith, here, sets)) in
          grind (arith, marked.flags at place here, none, left, tells, is);
    }

-- ---- labels

module _ (g : Game) (game : IsGame g) (player : ℕ) (numbers : List ℕ)
    (firsts : AreFirstsOf g numbers player) where
  pub number_within : (i : ℕ) → i < length numbers
      → get_or numbers i 0 < product (action_counts g player)
  number_within i less = grind (arith, all_at, length-all_choices)

  module _ (r : Relevance) (i : ℕ) (less : i < length numbers)
      (has : HasRow g player numbers r i) where
    abbrev row : List Bool
    row = take r.sets (drop (i * r.sets) r.flags.items)

    abbrev s : List ℕ
    s = numbered g player (get_or numbers i 0)

    inside : get_or numbers i 0 < length (strategies g player)
    inside = all_at (λ n. n < length (strategies g player)) numbers i 0 firsts.1 less

    counted : length row ≡ r.sets
    counted = grind (arith, length-take, length-drop, has.room)

    row_is : row ≡ relevant_sets g player s
    row_is =
        ext_get_or false row (relevant_sets g player s)
        (counted ∙ has.counted
        ∙ sym (length-map (player_keys g player) (is_relevant g (choice_at (player_keys g player) s))))
        (λ place among. grind (arith, counted, among, get_or-take, get_or-drop, has.is place))

    pub row_fits : length row ≡ length s
    row_fits = ap length row_is ∙ flags_fit g game player (get_or numbers i 0) inside

    pub label_written : reduced_label (shown row s) ≡ reduced_label (reduced g player s)
    label_written =
        ap (λ (flags : List Bool). reduced_label (shown flags s)) row_is
        ∙ ap reduced_label (sym (reduced_shown_at g game player (get_or numbers i 0) inside))

  pub labels_written : map (λ n. reduced_label (reduced g player (numbered g player n))) numbers
      ≡ reduced_labels g player
  labels_written = sym (map_twice reduced_label _ numbers) ∙ ap (map reduced_label) firsts.0
