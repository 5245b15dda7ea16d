-- What is left of a player's visits after a choice, visit by visit, and which sets can be met.
use Rattle.gf_form.proofs.Common
use Common.{IsNonDecreasingBy-push, false_from_ne_true, get_or-append_seam, Any-from_list_any, Adds}
use Common.{IsNonDecreasingBy, get_or-set_other, take-append-drop, list_any-append, AreOrderedFrom}
use Common.{get_or_default, get_or-set_at, length-append, list_any_more, ArePositive, get_or-drop}
use Common.{get_or-take, length-drop, length-take, take-length, length-set, HaveBelow, is_met_on, ℕ}
use Common.{AreParts, AreTaken, IsChosen, list_any, or-false, set_past, AreFrom, AreUpTo, is_left}
use Common.{left_of, or-true, Global, get_or, length, ne_eqb, Level, Takes, Visit, arith, false, []}
use Common.{is_in, meets, Bool, List, drop, refl, take, true, ◌++◌, ◌==◌, ◌||◌, Vec, set, suc, sym}
use Common.{◌*◌, ◌+◌, ◌-◌, ◌<◌, ◌∙◌, ◌∷◌, ◌≡◌, ◌≤◌, ap}
use Rattle.std.proofs.lemmas.List.Sorted.{IsNonDecreasingBy-drop, IsNonDecreasingBy-take}
use Rattle.gf_form.specs.declared.reduced.level.Parts.{Parts}

-- no demands are met
pub meets_none : (steps choices : List ℕ) → ArePositive steps → meets steps choices 0 ≡ true
meets_none (step ∷ steps) (action ∷ choices) h = grind (arith, meets_none steps choices)
meets_none steps choices h = grind arith

pub flag_on : (flags : List Bool) (at place : ℕ) → place < length flags
    → get_or (set flags at true) place false ≡ (get_or flags place false || at == place)
flag_on flags at place inside = grind (arith, get_or-set_at, get_or-set_other, or-true, or-false)

abbrev pub no_visit : Visit
no_visit = record { demands = 0; set = 0 }

abbrev by_demands : Visit → ℕ
by_demands v = v.demands

pub is_pushed : (v : Visit) (before : Level) (visits : Vec Visit Global)
    → visits.items ≡ before.visits.items ++ v ∷ []
    → Adds v before (record { visits = visits; known = before.known })
is_pushed v before visits are =
    let last : length visits.items - 1 ≡ length before.visits.items =
    omega (arith, ap length are, length-append before.visits.items (v ∷ [])) in record {
      counted = refl;
      adds = grind (arith, list_any-append, or-false);
      ordered = λ n le upto. record {
        ordered = rw are (IsNonDecreasingBy-push by_demands before.visits.items v
            upto.ordered (λ d some. omega (arith, le, upto.within d some)));
        within = grind (arith, get_or-append_seam);
      };
    }

-- what the code needs to add one visit
pub ruleset add_steps = (flag_on, meets_none, or-false, ne_eqb, get_or_default, length-set)

-- ---- what is left of visits if an action is chosen

pub any_in_two : (p : Visit → Bool) (visits : List Visit) (n : ℕ)
    → list_any p visits ≡ (list_any p (take n visits) || list_any p (drop n visits))
any_in_two p visits n = ap (list_any p) (sym (take-append-drop n visits)) ∙ list_any-append p _ _

any_alike : (p q : Visit → Bool) (visits : List Visit)
    → ((k : ℕ) (d : Visit) → k < length visits → p (get_or visits k d) ≡ q (get_or visits k d))
    → list_any p visits ≡ list_any q visits
any_alike p q [] h = refl
any_alike p q (v ∷ visits) h = λ i.
    h 0 v (omega arith) i
    || any_alike p q visits (λ k d less. h (suc k) d (omega (arith, less))) i

ordered_from : (n : ℕ) (visits : List Visit) → IsNonDecreasingBy (λ v. v.demands) visits
    → ((d : Visit) → 0 < length visits → n ≤ (get_or visits 0 d).demands) → AreOrderedFrom n visits
ordered_from n [] up least = tt
ordered_from n (v ∷ visits) up least = (
  least v (omega arith),
  ordered_from v.demands visits (IsNonDecreasingBy-drop by_demands 1 (v ∷ visits) up)
      (λ d some. up 0 1 d (omega arith) (omega (arith, some))),
)

-- they stand in two parts of visits in order
module _ (step action : ℕ) (visits others rest : List Visit) (free start count : ℕ)
    (free_is : HaveBelow visits step free) (others_are : others ≡ drop free visits)
    (start_is : HaveBelow others (action * step) start) (rest_is : rest ≡ drop start others)
    (count_is : HaveBelow rest (action * step + step) count) where
  others_demand : (k : ℕ) (d : Visit) → k < length others → step ≤ (get_or others k d).demands
  others_demand k d less = grind (arith, length-drop, get_or-drop, free_is.above (free + k) d)

  rest_demand : (k : ℕ) (d : Visit) → k < length rest → (step ≤ (get_or rest k d).demands)
      × (action * step ≤ (get_or rest k d).demands)
  rest_demand k d less = grind (arith, length-drop, get_or-drop, others_demand)

  module _ (place : ℕ) (steps choices : List ℕ) where
    abbrev counts : Visit → Bool
    counts v = is_met_on place (step ∷ steps) (action ∷ choices) v

    none_between : list_any counts (take start others) ≡ false
    none_between =
        grind (arith, Any-from_list_any, length-take, get_or-take, others_demand)

    none_after : list_any counts (drop count rest) ≡ false
    none_after =
        grind (arith, false_from_ne_true, Any-from_list_any, length-drop, get_or-drop, rest_demand)

    free_left : list_any (is_met_on place steps choices) (take free visits)
        ≡ list_any counts (take free visits)
    free_left = grind (arith, any_alike, length-take, get_or-take)

    own_left : list_any (λ v. is_met_on place steps choices (left_of (action * step) v))
        (take count rest)
        ≡ list_any counts (take count rest)
    own_left = grind (arith, any_alike, length-take, get_or-take, rest_demand)

  pub parts_are : IsNonDecreasingBy (λ v. v.demands) visits → (parts : Parts)
      → parts.free.now ≡ take free visits → parts.own.now ≡ take count rest
      → parts.lowest ≡ action * step → AreParts step action visits parts
  parts_are up parts free_now own_now lowest_is = record {
    left = λ place steps choices.
        let test = counts place steps choices in
        grind (
          arith,
          or-false,
          any_in_two test visits free,
          any_in_two test others start,
          any_in_two test rest count,
          none_between place steps choices,
          none_after place steps choices,
          free_left place steps choices,
          own_left place steps choices,
        );
    ordered = record {
      free = rw free_now (ordered_from 0 _ (IsNonDecreasingBy-take by_demands free visits up)
          (λ d some. omega arith));
      own = rw own_now (ordered_from _ _ (IsNonDecreasingBy-take by_demands count rest
          (rw (rest_is, others_are) (IsNonDecreasingBy-drop by_demands start (drop free visits)
          (IsNonDecreasingBy-drop by_demands free visits up))))
          (λ d some. grind (arith, length-take, get_or-take, rest_demand 0 d)));
    };
  }

-- ---- a level while visits are taken

-- what is left of a level is in another one, or still in the parts, whose visits demand no less than
-- those of that one
pub record IsPartly (step action : ℕ) (from : Level) (parts : Parts) (left : Level) : Type 0 where
  pub counted : length left.known.items ≡ length from.known.items
  pub adds : (place : ℕ) (steps choices : List ℕ) → place < length from.known.items
      → ArePositive steps → (is_left place steps choices left
      || is_in (is_met_on place steps choices) parts)
      ≡ is_left place (step ∷ steps) (action ∷ choices) from
  pub last : ℕ
  pub before : AreUpTo last left.visits.items
  pub after : AreFrom last parts

module _ (step action : ℕ) (from : Level) (parts : Parts) (left : Level)
    (h : IsPartly step action from parts left) where
  pub one_taken : (v : Visit) (rest : Parts) (next : Level) → Takes v parts rest
      → Adds v left next → IsPartly step action from rest next
  one_taken v rest next takes added = record {
    counted = added.counted ∙ h.counted;
    adds = grind arith;
    last = v.demands;
    before = added.ordered h.last (takes.ordered h.last h.after).0 h.before;
    after = (takes.ordered h.last h.after).1;
  }

  pub all_taken : AreTaken parts → IsChosen step action from left
  all_taken none place steps choices inside positive = grind arith

-- ---- marks

abbrev is_to : ℕ → Visit → Bool
is_to place v = v.set == place

-- the marks after the first i visits
pub record MarkedTo (level : Level) (i : ℕ) (met : List Bool) : Type 0 where
  pub counted : length met ≡ length level.known.items
  pub marked : (place : ℕ) → place < length level.known.items
      → get_or met place false ≡ (get_or level.known.items place false
      || list_any (is_to place) (take i level.visits.items))

module _ (level : Level) (i : ℕ) (met : List Bool) (before : MarkedTo level i met) where
  pub marked_more : (next : List Bool) → i < length level.visits.items → next
      ≡ set met (get_or level.visits.items i no_visit).set true → MarkedTo level (i + 1) next
  marked_more next less is =
      let more = λ (place : ℕ). list_any_more (is_to place) level.visits.items i no_visit less in
      grind (arith, length-set, flag_on, before.counted, before.marked, more)

  -- a visit to no set of the level
  pub marked_past : i < length level.visits.items
      → length met ≤ (get_or level.visits.items i no_visit).set → MarkedTo level (i + 1) met
  marked_past less past = marked_more met less (sym (set_past met _ true past))

pub ruleset mark_steps = (marked_more, marked_past, take-length)
