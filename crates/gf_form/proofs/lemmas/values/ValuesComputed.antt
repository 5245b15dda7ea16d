-- The probabilities and payoffs of a game that a file can hold have denominators above zero, and no
-- probability of a chance move is negative. The computed bottom-up value is the one of the relation;
-- and rows that are added up, number by number.
use Rattle.gf_form.proofs.Common
use Common.{fits_signed_from_abs, product_is_computed, IsSpellableAction, get_or-set_other, *ℤ-zero}
use Common.{get_or-set_same, option_and_then, product_of-none, product_of-some, sum_is_computed, []}
use Common.{AllByRecursion, InformationSet, get_or_default, whole_fraction, IsChanceValue, at_place}
use Common.{if◌then◌else◌, IsChildValue, MultipliesTo, chance_value, one_fraction, unsigned_abs, ap}
use Common.{IsSpellable, MatchOption, at_position, child_value, get_or_past, probability, MatchBool}
use Common.{sum_of-none, sum_of-some, IsFraction, chances_at, outcome_at, product_of, scaled_num, ℕ}
use Common.{value_over, zero_ratio, action_at, payoff_at, to_z-of_z, unwrap_or, cases_lt, div_self}
use Common.{dvd_refl, eqb-true, times_of, *ℤ_comm, AddUpTo, IsAbove, IsValue, Outcome, one-dvd, pos}
use Common.{plus_of, *ℤ-one, Action, AddsTo, IfSome, IsGame, Option, SetKey, branch, get_or, length}
use Common.{set_at, sum_of, IsLcm, IsSet, Ratio, Trees, arith, false, subst, value, Bool, Game, set}
use Common.{List, Node, None, Some, Step, Tree, ints, more, none, refl, true, zero, ◌*ℤ◌, ◌==◌, suc}
use Common.{◌≤ℤ◌, sym, ◌*◌, ◌+◌, ◌/◌, ◌<◌, ◌↔◌, ◌∙◌, ◌∷◌, ◌≡◌, ◌≤◌, ◌⊎◌, ℤ}
use Rattle.gf_form.proofs.lemmas.strategies.Chosen.{each_described, each_set, each_at}
use Rattle.std.proofs.Math.ListN.{length-set}

-- ---- denominators and signs

-- what is so of the actions of a node's set is so of the one that is taken there
pub each_action : (g : Game) (P : Action → Type 0) (s : Step)
    → ((key : SetKey) → s.node.set ≡ Some key
    → IfSome (set_at g key) (λ set. AllByRecursion P set.actions))
    → IfSome (action_at g s) P
each_action g P s sets = grind (arith, each_at P)

module _ (g : Game) (spellable : IsSpellable g) where
  actions_of : (key : SetKey)
      → IfSome (set_at g key) (λ set. AllByRecursion IsSpellableAction set.actions)
  actions_of key = grind (arith, each_described)

  pub payoffs_of : (number : ℕ)
      → IfSome (outcome_at g number) (λ outcome. AllByRecursion IsFraction outcome.payoffs)
  payoffs_of number = grind (arith, each_described)

  pub probability_fraction : (s : Step) → IsFraction (probability g s)
  probability_fraction s =
      grind (arith, each_action g IsSpellableAction s (λ key _. actions_of key), whole_fraction 1 (omega arith))

  paid_fraction : (player : ℕ) (o : Option Outcome)
      → IfSome o (λ outcome. AllByRecursion IsFraction outcome.payoffs) → IsFraction (unwrap_or
      (option_and_then (λ outcome. at_position outcome.payoffs player) o) zero_ratio)
  paid_fraction player o h =
      let zero = whole_fraction 0 (omega arith) in grind (arith, each_at IsFraction)

  pub payoff_fraction : (player : ℕ) (n : Node) → IsFraction (payoff_at g player n)
  payoff_fraction player n =
      let zero = whole_fraction 0 (omega arith) in grind (arith, paid_fraction, payoffs_of)

  pub payoff_above : (player : ℕ) (n : Node) → IsAbove (payoff_at g player n)
  payoff_above player n = (payoff_fraction player n).den_above_zero

abbrev HasSign : Action → Type 0
HasSign a = IfSome a.probability (λ p. pos 0 ≤ℤ p.num)

lottery_signs : (actions : List Action) (sum total : Ratio) → AddUpTo sum actions total
    → AllByRecursion HasSign actions
lottery_signs [] sum total adds = tt
lottery_signs (a ∷ actions) sum total adds =
    (rw adds.2 adds.3, lottery_signs actions adds.1 total adds.5)

set_signs : (players : ℕ) (key : SetKey) (o : Option InformationSet) → key.player ≡ 0
    → IfSome o (IsSet players key) → IfSome o (λ set. AllByRecursion HasSign set.actions)
set_signs players key None chance is = tt
set_signs players key (Some set) chance is = grind (arith, lottery_signs)

pub chance_size : (g : Game) → IsGame g → (n : Node) (key : SetKey) (k : ℕ) → n.set ≡ Some key
    → key.player ≡ 0 → (chances_at g n k).num ≡ pos (unsigned_abs (chances_at g n k).num)
chance_size g game n key k at chance =
    let sets = set_signs _ key (set_at g key) chance (each_set g game key) in
    grind (arith, ints, at, each_at HasSign)

-- ---- the computed bottom-up value is the one of the relation

pub zero_fraction : IsFraction zero_ratio
zero_fraction = whole_fraction 0 (omega arith)

pub zero_is : (x : Ratio) → IsFraction x → x.num ≡ pos 0 → x ≡ zero_ratio
zero_is x f nothing =
    one_fraction x zero_ratio (pos 0) 1 f zero_fraction (omega arith) (grind arith) (grind arith)

-- what has this property is a fraction, and it is what is computed
abbrev Agree : (Ratio → Type 0) → Option Ratio → Ratio → Type 0
Agree P o v = (P v → IsFraction v) × (P v ↔ (o ≡ Some v))

-- ---- sums and products

sum_agrees : (x y r : Ratio) → IsFraction x → IsFraction y → Agree (AddsTo x y) (sum_of x y) r
sum_agrees x y r hx hy = (
  λ h. h.1,
  (λ h. sum_of-some x y hx hy r h.0 h.1 h.2, λ e. grind (arith, sum_is_computed x y hx hy)),
)

product_agrees : (p x r : Ratio) → IsFraction p → IsFraction x
    → Agree (MultipliesTo p x) (product_of p x) r
product_agrees p x r hp hx = (
  λ h. h.0,
  (λ h. product_of-some p x hp hx r h.0 h.1, λ e. grind (arith, product_is_computed p x hp hx)),
)

-- what is added to a payoff
plus_agrees : (own : Ratio) → IsFraction own → (P : Ratio → Type 0) (o : Option Ratio)
    → ((x : Ratio) → Agree P o x) → (v : Ratio)
    → Agree (λ v. (x : Ratio) × P x × AddsTo own x v) (plus_of (Some own) o) v
plus_agrees own f P None agree v = (λ h. h.2.1, (λ h. absurd (grind arith), λ e. absurd cc))
plus_agrees own f P (Some x) agree v =
    let is = agree x in
    let p = is.1.1 refl in
    let sum = sum_agrees own x v f (is.0 p) in
    (λ h. h.2.1, (λ h. grind (arith, sum_agrees, agree h.0), λ e. (x, p, sum.1.1 e)))

-- a multiple is added to a sum, with which it goes on
next_agrees : (p sum : Ratio) → IsFraction p → IsFraction sum → (P : Ratio → Type 0)
    (Q : Ratio → Ratio → Type 0) (o : Option Ratio) (later : Option Ratio → Option Ratio)
    → ((x : Ratio) → Agree P o x) → later None ≡ None → (v : Ratio)
    → ((next : Ratio) → IsFraction next → Agree (Q next) (later (Some next)) v)
    → Agree (λ v. (x y next : Ratio) × P x × MultipliesTo p x y × AddsTo sum y next × Q next v)
    (later (plus_of (Some sum) (times_of p o))) v
next_agrees p sum fp fs P Q o later agree stays v rest =
    (λ h. (rest h.2 h.5.1).0 h.6, (to, from (plus_of (Some sum) (times_of p o)) refl))
  where
    to : ((x y next : Ratio) × P x × MultipliesTo p x y × AddsTo sum y next × Q next v)
        → later (plus_of (Some sum) (times_of p o)) ≡ Some v
    to h = grind (arith, product_agrees, sum_agrees, agree h.0, rest h.2 h.5.1)

    from : (s : Option Ratio) → plus_of (Some sum) (times_of p o) ≡ s → later s ≡ Some v
        → (x y next : Ratio) × P x × MultipliesTo p x y × AddsTo sum y next × Q next v
    from None e h = absurd cc
    from (Some next) e h =
        let parts : (x y : Ratio) × (o ≡ Some x) × (product_of p x ≡ Some y) × (sum_of sum y ≡ Some
        next) = grind arith in
        let a = agree parts.0 in
        let is = a.1.1 parts.2 in
        let times = (product_agrees p parts.0 parts.1 fp (a.0 is)).1.1 parts.3 in
        let adds = (sum_agrees sum parts.1 next fs times.0).1.1 parts.4 in
        (parts.0, parts.1, next, is, times, adds, (rest next adds.1).1.1 h)

-- one thing or another
either : (b : Bool) (P Q : Ratio → Type 0) (c d : Option Ratio) (x : Ratio) → Agree P c x
    → Agree Q d x → Agree (λ x. MatchBool b (P x) (Q x)) (if b then c else d) x
either true P Q c d x p q = p
either false P Q c d x p q = q

-- at a node of this set
node_agrees : (own : Ratio) → IsFraction own → (o : Option SetKey) (P : Ratio → Type 0)
    (Q : SetKey → Ratio → Type 0) (c : Option Ratio) (d : SetKey → Option Ratio)
    → ((x : Ratio) → Agree P c x) → ((key : SetKey) (x : Ratio) → Agree (Q key) (d key) x)
    → (v : Ratio) → Agree (λ v. MatchOption o (v ≡ own)
    (λ key. (x : Ratio) × MatchBool (key.player == 0) (P x) (Q key x) × AddsTo own x v))
    (value_over own o (λ key. if key.player == 0 then c else d key)) v
node_agrees own f (Some key) P Q c d p q v =
    plus_agrees own f (λ x. MatchBool (key.player == 0) (P x) (Q key x))
    (if key.player == 0 then c else d key)
    (λ x. either (key.player == 0) P (Q key) c (d key) x (p x) (q key x)) v
node_agrees own f o P Q c d p q v = grind arith

-- ---- the tree

-- nothing is added to a sum that is not defined
pub none_stays : (g : Game) (choices : SetKey → ℕ) (player : ℕ) (ts : Trees Node)
    (chances : ℕ → Ratio) (k : ℕ) → chance_value g choices player chances k None ts ≡ None
none_stays g choices player none chances k = refl
none_stays g choices player (more t ts) chances k = none_stays g choices player ts chances (k + 1)

module _ (g : Game) (spellable : IsSpellable g) (choices : SetKey → ℕ) (player : ℕ) where
  mutual
    pub value_agrees : (t : Tree Node) (v : Ratio)
        → Agree (IsValue g choices player t) (value g choices player t) v
    value_agrees (branch n ts) v =
        node_agrees (payoff_at g player n) (payoff_fraction g spellable player n) n.set _ _ _ _
        (λ x. chance_agrees ts n 1 zero_ratio x zero_fraction)
        (λ key x. child_agrees ts (choices key) x) v

    chance_agrees : (ts : Trees Node) (n : Node) (k : ℕ) (sum v : Ratio) → IsFraction sum
        → Agree (IsChanceValue g choices player n k sum ts)
        (chance_value g choices player (chances_at g n) k (Some sum) ts) v
    chance_agrees none n k sum v f =
        (λ h. subst IsFraction (sym h) f, (λ h. ap Some (sym h), λ h. cc))
    chance_agrees (more t ts) n k sum v f =
        next_agrees (chances_at g n k) sum
        (probability_fraction g spellable (record { node = n; taken = k })) f
        (λ x. IsValue g choices player t x)
        (λ next v. IsChanceValue g choices player n (k + 1) next ts v) (value g choices player t)
        (λ next. chance_value g choices player (chances_at g n) (k + 1) next ts)
        (λ x. value_agrees t x) (none_stays g choices player ts (chances_at g n) (k + 1)) v
        (λ next. chance_agrees ts n (k + 1) next v)

    child_agrees : (ts : Trees Node) (position : ℕ) (v : Ratio)
        → Agree (IsChildValue g choices player position ts)
        (child_value g choices player position ts) v
    child_agrees (more t ts) (suc zero) v = value_agrees t v
    child_agrees (more t ts) (suc (suc position)) v = child_agrees ts (suc position) v
    child_agrees ts position v = (λ h. absurd h, (λ h. absurd h, λ e. absurd cc))

  pub value_is : (t : Tree Node) (v : Ratio)
      → IsValue g choices player t v ↔ (value g choices player t ≡ Some v)
  value_is t v = (value_agrees t v).1

  -- no value is computed
  pub none_computed : (t : Tree Node) → value g choices player t ≡ None
      → ¬ ((v : Ratio) × IsValue g choices player t v)
  none_computed t nothing h = let e = (value_is t h.0).0 h.1 in absurd cc

zero_by : (z : ℤ) → pos 0 *ℤ z ≡ pos 0
zero_by z = *ℤ_comm (pos 0) z ∙ *ℤ-zero z

-- a numerator over its own denominator
own_scale : (x : Ratio) → IsFraction x → scaled_num x x.den ≡ x.num
own_scale x f = cc (div_self f.den_above_zero, *ℤ-one x.num)

zero_scale : (m : ℕ) → scaled_num zero_ratio m ≡ pos 0
zero_scale m = zero_by (pos (m / 1))

module _ (x : Ratio) (f : IsFraction x) where
  lcm_right : IsLcm x.den 1 x.den
  lcm_right = record { left = dvd_refl x.den; right = one-dvd x.den; least = λ k h _. h }

  lcm_left : IsLcm 1 x.den x.den
  lcm_left = record { left = one-dvd x.den; right = dvd_refl x.den; least = λ k _ h. h }

  pub plus_zero : sum_of x zero_ratio ≡ Some x
  plus_zero =
      sum_of-some x zero_ratio f zero_fraction x (grind (arith, lcm_right, own_scale, zero_scale)) f
      (grind arith)

  pub zero_plus : sum_of zero_ratio x ≡ Some x
  zero_plus =
      sum_of-some zero_ratio x zero_fraction f x (grind (arith, lcm_left, zero_scale, own_scale)) f
      (grind arith)

  -- no numerator, no product
  pub none_times : x.num ≡ pos 0 → (y : Ratio) → IsFraction y → product_of x y ≡ Some zero_ratio
  none_times nothing y g =
      grind (arith, zero_by y.num, product_of-some x y f g zero_ratio zero_fraction (grind arith))

  pub times_zero : product_of x zero_ratio ≡ Some zero_ratio
  times_zero =
      product_of-some x zero_ratio f zero_fraction zero_ratio zero_fraction
      (zero_by (pos (x.den * 1)) ∙ sym (ap (λ z. z *ℤ pos 1) (*ℤ-zero x.num)))

-- ---- numbers at their places

pub fraction_at : (row : List Ratio) (k : ℕ) → AllByRecursion IsFraction row
    → IsFraction (at_place row k)
fraction_at (x ∷ row) (suc k) h = fraction_at row k h.1
fraction_at row k h = grind (arith, zero_fraction)

all_set : (row : List Ratio) (i : ℕ) (x : Ratio) → AllByRecursion IsFraction row → IsFraction x
    → AllByRecursion IsFraction (set row i x)
all_set (y ∷ row) (suc i) x h f = (h.0, all_set row i x h.1 f)
all_set row i x h f = grind arith

-- ---- rows that are added so far

-- to the first i numbers of `old` those of `row` are added
pub record Added (step : Ratio → Ratio → Option Ratio) (old new row : List Ratio) (i : ℕ)
    : Type 0 where
  pub counted : length new ≡ length row
  pub fractions : AllByRecursion IsFraction new
  pub done : (k : ℕ) → k < i → step (at_place old k) (at_place row k) ≡ Some (at_place new k)
  pub kept : (k : ℕ) → i ≤ k → at_place new k ≡ at_place old k

module _ (step : Ratio → Ratio → Option Ratio) (old new row : List Ratio) where
  pub one_added : (i : ℕ) (x : Ratio) → Added step old new row i → i < length row
      → step (at_place new i) (at_place row i) ≡ Some x → IsFraction x
      → Added step old (set new i x) row (i + 1)
  one_added i x a h is f =
      grind (arith, length-set, all_set, cases_lt, get_or-set_other, set, get_or-set_same)

  pub all_added : Added step old new row (length row) → step zero_ratio zero_ratio ≡ Some zero_ratio
      → (k : ℕ) → step (at_place old k) (at_place row k) ≡ Some (at_place new k)
  all_added a zeros k = grind (arith, cases_lt, get_or_past)

-- ---- what is read at a place

pub place_is : (row : List Ratio) (i : ℕ) (x : Ratio) → i < length row → x ≡ get_or row i x
    → at_place row i ≡ x
place_is row i x h e = get_or_default row i zero_ratio x h ∙ sym e

pub read_fraction : (row : List Ratio) (i : ℕ) (x : Ratio) → AllByRecursion IsFraction row
    → i < length row → x ≡ get_or row i x → IsFraction x
read_fraction row i x f h e = subst IsFraction (place_is row i x h e) (fraction_at row i f)

-- ---- nothing is added

pub empty_row : (row : List Ratio) → true ≡ (length row == 0) → (k : ℕ)
    → at_place row k ≡ zero_ratio
empty_row row h k = grind (arith, eqb-true, get_or_past)

pub nothing_weighed : (chance : Ratio) (sum row : List Ratio)
    → IsFraction chance → AllByRecursion IsFraction sum → AllByRecursion IsFraction row → (k : ℕ)
    → (chance.num ≡ pos 0) ⊎ (at_place row k ≡ zero_ratio) → plus_of (Some (at_place sum k))
    (times_of chance (Some (at_place row k))) ≡ Some (at_place sum k)
nothing_weighed chance sum row fc fs fr k h =
    grind (arith, plus_zero, fraction_at, none_times, times_zero)

-- a product with zero, and a sum with it
pub zero_weighed : (number chance other : Ratio) → IsFraction number → IsFraction chance
    → IsFraction other → other.num ≡ pos 0
    → plus_of (Some number) (times_of chance (Some other)) ≡ Some number
zero_weighed number chance other fn fc fo nothing = grind (arith, zero_is, times_zero, plus_zero)

pub first_weighed : (number chance other product : Ratio) → IsFraction number → IsFraction product
    → number.num ≡ pos 0 → times_of chance (Some other) ≡ Some product
    → plus_of (Some number) (times_of chance (Some other)) ≡ Some product
first_weighed number chance other product fn fp nothing is = grind (arith, zero_is, zero_plus)

pub zeros_weighed : (chance : Ratio) → IsFraction chance
    → plus_of (Some zero_ratio) (times_of chance (Some zero_ratio)) ≡ Some zero_ratio
zeros_weighed chance f = cc (times_zero chance f, plus_zero zero_ratio zero_fraction)

pub nothing_paid : (row payoffs : List Ratio) → AllByRecursion IsFraction row
    → true ≡ (length payoffs == 0) → (k : ℕ)
    → sum_of (at_place payoffs k) (at_place row k) ≡ Some (at_place row k)
nothing_paid row payoffs f h k = grind (arith, empty_row, zero_plus, fraction_at)

-- ---- what the steps of the code need

pub ruleset sum_steps = (sum_of-some, sum_of-none, product_of-some, product_of-none)

pub ruleset weighed_steps =
    (sum_steps, zero_weighed, first_weighed, to_z-of_z, fits_signed_from_abs)

pub ruleset weigh_steps =
    (nothing_weighed, to_z-of_z, fits_signed_from_abs, empty_row, read_fraction, place_is)

pub ruleset pay_steps = (nothing_paid, read_fraction, place_is)
