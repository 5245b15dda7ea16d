-- Demands as numbers in mixed radix: which digit a demand has at a set, what another action there
-- changes, and which choices meet it; the places of sets and of their digits, and how digits are made
-- set by set, from the fastest on.
use Rattle.gf_form.proofs.Common
use Common.{get_or_append_left, get_or-append-add, mul-le-mul_right, InformationSet, length-append}
use Common.{div-mul_cancel, append_assoc, mod-eq_of_lt, AllZip-long, AreDigitsOf, ArePositive}
use Common.{div-mul-add, steps_after, append-nil, map-append, strides_of, AreDigits, AreMadeOf, []}
use Common.{ArePlaced, and_parts, drop-cons, mul_above, mul_assoc, demanded, dvd_refl, ℕ}
use Common.{in_order, mul_comm, steps_of, add-one, product, AllZip, SetKey, get_or, length}
use Common.{picked, set_at, Digit, arith, false, meets, spans, width, Bool, Game}
use Common.{List, Some, drop, refl, true, zero, ◌&&◌, ◌++◌, ◌==◌, ◌||◌, map, set, suc, sym, rules}
use Common.{◌%◌, ◌*◌, ◌+◌, ◌-◌, ◌/◌, ◌<◌, ◌^◌, ◌∙◌, ◌∣◌, ◌∷◌, ◌≡◌, ◌≤◌, ap}
use Rattle.std.proofs.Math.Nat.{add-mul-mod_self_right, dvd-mul_left_of_dvd, mul-add-div}
pub use Rattle.gf_form.specs.inner.rows.Demands.{pack}

-- ---- numbers by their digits

-- a digit for each set, which is 0 or one of this many actions
abbrev pub AreWithin : List ℕ → List ℕ → Type 0
AreWithin actions ds = AllZip (λ n d. d ≤ n) actions ds

pub spans_above : (actions : List ℕ) → 0 < product (spans actions)
spans_above [] = omega arith
spans_above (n ∷ faster) =
    mul_above (n + 1) (product (spans faster)) (omega arith) (spans_above faster)

pub pack_below : (actions ds : List ℕ) → AreWithin actions ds
    → pack actions ds < product (spans actions)
pack_below (n ∷ faster) (d ∷ ds) h =
    (omega (
      arith,
      mul-le-mul_right (product (spans faster)) h.0,
      (pack_below faster ds h.1),
      h.0,
      pack_below faster ds h.1,
    ))
pack_below actions ds h = grind arith

pub within_length : (actions ds : List ℕ) → AreWithin actions ds → length ds ≡ length actions
within_length actions ds h = AllZip-long (λ n d. d ≤ n) actions ds h

-- ---- the digit at a place

-- what is slower counts for nothing
pub faster_part : (d p r s n : ℕ) → 0 < s → s * n ∣ p → (d * p + r) / s % n ≡ r / s % n
faster_part d p r s n above h =
    let q = p / (s * n) in
    let whole : q * (s * n) ≡ p = div-mul_cancel (s * n) h in
    let grouped : d * p + r ≡ s * (d * q * n) + r = omega (arith, ap (λ k. d * k) whole) in
    let turned : d * q * n + r / s ≡ r / s + d * q * n = omega arith in
    grind (arith, mul-add-div, add-mul-mod_self_right)

step_above : (actions : List ℕ) (place : ℕ) → place < length actions
    → 0 < get_or (steps_of actions) place 0
step_above (n ∷ faster) (suc place) h = step_above faster place (omega (arith, h))
step_above actions place h = grind (arith, spans_above)

step_divides : (actions : List ℕ) (place : ℕ) → place < length actions
    → get_or (steps_of actions) place 0 * (get_or actions place 0 + 1) ∣ product (spans actions)
step_divides (n ∷ faster) zero h = rw (mul_comm (n + 1) (product (spans faster))) (dvd_refl _)
step_divides (n ∷ faster) (suc place) h =
    dvd-mul_left_of_dvd _ (step_divides faster place (omega (arith, h))) (n + 1)
step_divides actions place h = absurd (omega arith)

pub digit_is : (actions ds : List ℕ) (place : ℕ) → AreWithin actions ds → place < length actions
    → demanded (pack actions ds) (get_or (steps_of actions) place 0) (get_or actions place 0)
    ≡ get_or ds place 0
digit_is (n ∷ faster) (d ∷ ds) (suc place) h within =
    let there : place < length faster = omega (arith, within) in
    grind (arith, faster_part, step_above, step_divides, digit_is faster ds place h.1 there)
digit_is actions ds place h within = grind (arith, pack_below, div-mul-add, mod-eq_of_lt)

-- ---- another digit

pub set_within : (actions ds : List ℕ) (place k : ℕ) → AreWithin actions ds
    → k ≤ get_or actions place 0 → AreWithin actions (set ds place k)
set_within (n ∷ faster) (d ∷ ds) (suc place) k h le = (h.0, set_within faster ds place k h.1 le)
set_within actions ds place k h le = grind arith

pub set_pack : (actions ds : List ℕ) (place k : ℕ) → AreWithin actions ds → place < length actions
    → get_or ds place 0 ≡ 0
    → pack actions ds + k * get_or (steps_of actions) place 0 ≡ pack actions (set ds place k)
set_pack (n ∷ faster) (d ∷ ds) (suc place) k h within free =
    omega (arith, set_pack faster ds place k h.1 (omega (arith, within)) free)
set_pack actions ds place k h within free = grind arith

-- ---- which choices meet the demands

abbrev pub met : List ℕ → List ℕ → Bool
met (c ∷ cs) (d ∷ ds) = (d == 0 || d == c) && met cs ds
met _ _ = true

meets_first : (p r c d : ℕ) (steps cs : List ℕ) → r < p
    → meets (p ∷ steps) (c ∷ cs) (d * p + r) ≡ ((d == 0 || d == c) && meets steps cs r)
meets_first p r c d steps cs h = search (rules, mul-le-mul_right)

pub meets_is : (actions choices ds : List ℕ) → length choices ≡ length actions
    → AreWithin actions ds → meets (steps_of actions) choices (pack actions ds) ≡ met choices ds
meets_is (n ∷ faster) (c ∷ cs) (d ∷ ds) e h =
    grind (arith, meets_first, pack_below, meets_is faster cs ds (omega (arith, e)) h.1)
meets_is [] (c ∷ cs) ds e h = absurd (omega arith)
meets_is (n ∷ faster) [] ds e h = absurd (omega arith)
meets_is actions choices ds e h = grind arith

-- an action is demanded where any would do
pub met_set : (choices ds : List ℕ) (place k : ℕ) → length choices ≡ length ds → place < length ds
    → get_or ds place 0 ≡ 0 → 1 ≤ k
    → met choices (set ds place k) ≡ (met choices ds && k == get_or choices place 0)
met_set (c ∷ cs) (d ∷ ds) (suc place) k e within free some =
    grind (arith, met_set cs ds place k (omega (arith, e)) (omega (arith, within)) free some)
met_set choices ds place k e within free some = grind arith

-- a demand that is met is the choice
pub met_digit : (choices ds : List ℕ) (place : ℕ) → length choices ≡ length ds → place < length ds
    → met choices ds ≡ true → ¬ (get_or ds place 0 ≡ 0) → get_or choices place 0 ≡ get_or ds place 0
met_digit (c ∷ cs) (d ∷ ds) (suc place) e within is some =
    met_digit cs ds place (omega (arith, e)) (omega (arith, within))
    (and_parts (d == 0 || d == c) (met cs ds) is).1 some
met_digit choices ds place e within is some = grind arith

-- ---- no demand

abbrev pub no_demands : List ℕ → List ℕ
no_demands actions = map (λ _. 0) actions

pub none_within : (actions : List ℕ) → AreWithin actions (no_demands actions)
none_within [] = tt
none_within (n ∷ faster) = (omega arith, none_within faster)

pub none_pack : (actions : List ℕ) → pack actions (no_demands actions) ≡ 0
none_pack [] = refl
none_pack (n ∷ faster) = grind (arith, none_pack faster)

pub none_met : (choices actions : List ℕ) → met choices (no_demands actions) ≡ true
none_met (c ∷ cs) (n ∷ faster) = none_met cs faster
none_met choices actions = grind arith

-- ---- products

pub product_joined : (xs ys : List ℕ) → product (xs ++ ys) ≡ product xs * product ys
product_joined [] ys = omega arith
product_joined (x ∷ xs) ys = cc (product_joined xs ys, mul_assoc x (product xs) (product ys))

pub width_positive : (counts : List ℕ) → 0 < width counts
width_positive counts = spans_above (picked counts counts)

-- ---- a number for each set

as_many_picked : (counts xs : List ℕ) → length xs ≡ length counts
    → length (picked counts xs) ≡ length (picked counts counts)
as_many_picked (n ∷ counts) (x ∷ xs) e = grind (arith, as_many_picked counts xs (omega (arith, e)))
as_many_picked counts xs e = grind arith

pub steps_long : (faster : ℕ) (counts : List ℕ)
    → length (steps_after faster counts) ≡ length counts
steps_long faster [] = refl
steps_long faster (n ∷ counts) = grind (arith, steps_long faster counts)

pub strides_long : (counts : List ℕ) → length (strides_of counts) ≡ length counts
strides_long [] = refl
strides_long (n ∷ counts) = ap suc (strides_long counts)

-- ---- the digits of sets

-- these stand behind others too
behind : (steps counts choices : List ℕ) (s n c step count choice : ℕ)
    → ArePlaced steps counts choices step count choice
    → ArePlaced (s ∷ steps) (n ∷ counts) (c ∷ choices) step count choice
behind steps counts choices s n c step count choice h = record {
  place = suc h.place;
  within = omega (arith, h.within);
  step_is = h.step_is;
  count_is = h.count_is;
  choice_is = h.choice_is;
}

own_digit : (counts xs : List ℕ) (j : ℕ) → length xs ≡ length counts → j < length counts
    → ¬ (get_or (steps_after 1 counts) j 0 ≡ 0)
    → ArePlaced (steps_of (picked counts counts)) (picked counts counts) (picked counts xs)
    (get_or (steps_after 1 counts) j 0) (get_or counts j 0) (get_or xs j 0)
own_digit (suc (suc n) ∷ counts) (x ∷ xs) (suc j) same less some =
    grind (arith, behind, own_digit counts xs j (omega (arith, same)) (omega (arith, less)) some)
own_digit (suc zero ∷ counts) (x ∷ xs) (suc j) same less some =
    own_digit counts xs j (omega (arith, same)) (omega (arith, less)) some
own_digit (zero ∷ counts) (x ∷ xs) (suc j) same less some =
    own_digit counts xs j (omega (arith, same)) (omega (arith, less)) some
own_digit counts xs j same less some = grind arith

own_alone : (counts : List ℕ) (j : ℕ) → get_or (steps_after 1 counts) j 0 ≡ 0
    → get_or counts j 0 ≤ 1
own_alone (n ∷ counts) (suc j) e = grind (arith, own_alone counts j)
own_alone counts j e = grind (arith, width_positive)

-- where the sets with these steps and choices have such digits
pub are_digits : (g : Game) (owns : SetKey → Bool) (steps choose : SetKey → ℕ) (counts xs : List ℕ)
    → width counts < 2 ^ 64 → length xs ≡ length counts
    → ((key : SetKey) → owns key ≡ false → steps key ≡ 0)
    → ((key : SetKey) (set : InformationSet) → set_at g key ≡ Some set → owns key ≡ true
    → (1 ≤ choose key) × (choose key ≤ length set.actions))
    → ((key : SetKey) (set : InformationSet) → set_at g key ≡ Some set → owns key ≡ true
    → ArePlaced (steps_after 1 counts) counts xs (steps key) (length set.actions) (choose key))
    → AreDigits g owns steps choose (picked counts counts) (picked counts xs)
are_digits g owns steps choose counts xs within same other chosen placed = record {
  within = within;
  one_each = as_many_picked counts xs same;
  other = other;
  chosen = chosen;
  alone = λ key set is his none.
      let at = placed key set is his in
      let few = own_alone counts at.place (at.step_is ∙ none) in
      omega (arith, few, at.count_is, chosen key set is his);
  several = λ key set is his some.
      let at = placed key set is his in
      grind (arith, own_digit counts xs at.place same at.within);
}

-- ---- the sets of all players

pub as_long : (xs ys : List (List ℕ)) → map length xs ≡ map length ys
    → length (in_order xs) ≡ length (in_order ys)
as_long (x ∷ xs) (y ∷ ys) same = grind (arith, length-append, as_long xs ys (cc))
as_long [] [] same = refl
as_long xs ys same = grind arith

-- what stands at a place of a player's stands among all players'
pub among_all : (all counts xs : List (List ℕ)) (i step count choice : ℕ)
    → map length all ≡ map length counts → map length xs ≡ map length counts
    → ArePlaced (get_or all i []) (get_or counts i []) (get_or xs i []) step count choice
    → ArePlaced (in_order all) (in_order counts) (in_order xs) step count choice
among_all (s ∷ all) (n ∷ counts) (x ∷ xs) zero step count choice one other h =
    grind (arith, as_long, length-append, get_or-append-add)
among_all (s ∷ all) (n ∷ counts) (x ∷ xs) (suc i) step count choice one other h =
    grind (arith, as_long, length-append, get_or_append_left, among_all all counts xs i step count choice (cc) (cc) h)
among_all [] [] xs i step count choice one other h = absurd (omega (arith, h.within))
among_all all counts xs i step count choice one other h = absurd cc

-- ---- one set more

pub digit_more : (n values more : ℕ) (later : List ℕ) (old new : List Digit) → 1 < n
    → more ≡ values * (n + 1) → more < 2 ^ 64 → new ≡ record { step = values; actions = n } ∷ old
    → AreDigitsOf later old values → AreDigitsOf (n ∷ later) new more
    × (steps_after 1 (n ∷ later) ≡ values ∷ steps_after 1 later)
digit_more n values more later old new some more_is fits new_is are = grind (arith, mul_comm)

pub digit_same : (n values : ℕ) (later : List ℕ) (old : List Digit) → n ≤ 1
    → AreDigitsOf later old values → AreDigitsOf (n ∷ later) old values
    × (steps_after 1 (n ∷ later) ≡ 0 ∷ steps_after 1 later)
digit_same n values later old none are = grind arith

pub digit_past : (n values : ℕ) (later : List ℕ) (old : List Digit) → 1 < n
    → 2 ^ 64 ≤ values * (n + 1) → AreDigitsOf later old values → 2 ^ 64 ≤ width (n ∷ later)
digit_past n values later old some past are = grind (arith, mul_comm)

pub no_digits : AreDigitsOf [] [] 1
no_digits = grind arith

-- ---- from a place on

-- the item at this place goes first
pub next_is : {A : Type 0} (xs : List A) (i : ℕ) (x d : A) → i < length xs → x ≡ get_or xs i d
    → drop i xs ≡ x ∷ drop (i + 1) xs
next_is xs i x d less is = grind (arith, drop-cons, add-one)

-- those of the sets from a place on have no more values than all
pub width_left : (i : ℕ) (counts later : List ℕ)
    → width (drop i counts ++ later) ≤ width (counts ++ later)
width_left (suc i) (n ∷ counts) later =
    grind (arith, width_left i counts later, mul-le-mul_right)
width_left i counts later = grind arith

product_left : (i : ℕ) (counts later : List ℕ) → ArePositive (counts ++ later)
    → product (drop i counts ++ later) ≤ product (counts ++ later)
product_left (suc i) (n ∷ counts) later some =
    search (rules, mul-le-mul_right, product_left i counts later some.1)
product_left i counts later some = grind arith

-- the set before a place goes before those that come later
pub cut : (actions later : List ℕ) (place : ℕ) → 0 < place → place ≤ length actions
    → drop (place - 1) actions ++ later
    ≡ get_or actions (place - 1) 0 ∷ (drop place actions ++ later)
cut actions later place some within = grind (arith, drop-cons)

-- one stride more, that of the set before a place
pub stride_more : (actions later strides : List ℕ) (place choices : ℕ) → 0 < place
    → place ≤ length actions → ArePositive (actions ++ later) → product (actions ++ later) < 2 ^ 32
    → (strides ++ strides_of later ≡ strides_of (drop place actions ++ later))
    × (choices ≡ product (drop place actions ++ later))
    → ((choices ∷ strides) ++ strides_of later ≡ strides_of (drop (place - 1) actions ++ later))
    × ((choices * get_or actions (place - 1) 0) % 2 ^ 32
    ≡ product (drop (place - 1) actions ++ later))
stride_more actions later strides place choices some within positive few before =
    grind (arith, cut, product_left, mul_comm, mod-eq_of_lt)

-- ---- player by player

pub in_order_more : (all : List (List ℕ)) (own : List ℕ)
    → in_order (all ++ own ∷ []) ≡ own ++ in_order all
in_order_more [] own = sym (append-nil own)
in_order_more (first ∷ all) own = grind (arith, append_assoc, in_order_more all own)

pub player_made : (made : List ℕ → List ℕ) → ((counts : List ℕ)
    → length (made counts) ≡ length counts) → (counts : List (List ℕ)) (count own : List ℕ)
    (all next : List (List ℕ)) → next ≡ all ++ own ∷ []
    → own ++ made (in_order counts) ≡ made (count ++ in_order counts)
    → AreMadeOf made counts all → AreMadeOf made (counts ++ count ∷ []) next
player_made made long counts count own all next is more before =
    grind (arith, length-append, in_order_more, map-append)

-- ---- what the steps of the code need

pub ruleset demand_steps = (mod-eq_of_lt)

pub ruleset set_steps = (digit_more, digit_same, digit_past)
