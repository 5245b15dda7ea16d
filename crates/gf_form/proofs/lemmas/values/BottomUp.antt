-- If the bottom-up value is defined, it is the payoff by plays. Some probability and some payoff
-- come before a tree, and count in each of its plays: so a node's own payoff is paid before its
-- children.
use Rattle.gf_form.proofs.Common
use Common.{get_or-numbers_from, length-numbers_from, All-from_recursion, value as value_of, *ℤ-one}
use Common.{play_probability, IsTerminalValue, option_and_then, AllByRecursion, HasValuesWith, Bool}
use Common.{IsChanceValue, if◌then◌else◌, mul_pos_right, IsChildValue, MultipliesTo, HasChildren, ℕ}
use Common.{IsMoveValue, IsSpellable, MatchOption, flatten_all, play_payoff, plus_across, all_parts}
use Common.{probability, times_above, times_right, All-get_or, ArePayoffs, IsFraction, cases_Bool}
use Common.{chances_at, equal_refl, length-map, option_map, players_of, plays_from, plus_above, inl}
use Common.{plus_right, times_plus, times_zero, zero_ratio, from_node, is_chosen, mul_above, +ℤ_idr}
use Common.{one_ratio, payoff_at, plus_both, plus_left, slice_get, unwrap_or, *ℤ_assoc, +ℤ_assoc}
use Common.{at_place, eqb-true, *ℤ_comm, AddUpTo, IsAbove, IsEqual, IsValue, flatten, follows, Game}
use Common.{Action, AddsTo, IfSome, IsGame, Option, SetKey, add-*ℤ, branch, filter, get_or, length}
use Common.{payoff, set_at, ◌then◌, Ratio, Trees, arith, count, false, plays, subst, times, total}
use Common.{List, Node, None, Play, Some, Tree, back, more, none, plus, refl, true, zero, ◌++◌, inr}
use Common.{◌==◌, map, suc, sym, ◌+◌, ◌<◌, ◌∙◌, ◌∷◌, ◌≡◌, [], ap}
use Rattle.gf_tree.specs.Description.{AreActions}
use Rattle.gf_form.proofs.lemmas.strategies.Chosen.{next_position, all_in_turn, zip_in_turn}
use Rattle.gf_form.proofs.lemmas.strategies.Chosen.{each_set, set_is}
use Rattle.gf_form.proofs.lemmas.rows.Descents.{set_there}
use Rattle.gf_form.proofs.lemmas.values.Walks.{root_there}
use Rattle.gf_form.proofs.lemmas.values.ValuesComputed.{probability_fraction, none_computed}
use Rattle.gf_form.proofs.lemmas.values.ValuesComputed.{payoff_above, each_action, fraction_at, value_is}

-- ---- sums and products whose parts are the same

plus_grouped : (x y z : Ratio) → plus (plus x y) z ≡ plus x (plus y z)
plus_grouped x y z = grind (arith, add-*ℤ, *ℤ_assoc, +ℤ_assoc)

plus_none : (x : Ratio) → plus x zero_ratio ≡ x
plus_none x = grind (arith, *ℤ-one, +ℤ_idr)

none_plus : (x : Ratio) → plus zero_ratio x ≡ x
none_plus x = grind (arith, plus_none)

pub times_once : (x : Ratio) → times x one_ratio ≡ x
times_once x = grind (arith, *ℤ-one)

pub once_times : (x : Ratio) → times one_ratio x ≡ x
once_times x = grind (arith, *ℤ_comm, times_once)

-- what is the same as equal ratios is equal
pub over : {w x y z : Ratio} → w ≡ x → IsEqual x y → y ≡ z → IsEqual w z
over {w} {x} {y} {z} e h f = subst (λ r. IsEqual r z) (sym e) (subst (IsEqual x) f h)

-- ---- what is computed

second_above : (x y z : Ratio) → IsEqual (plus x y) z → IsAbove y
second_above x y z h = grind (arith, h.left)

sum_equal : (x y r : Ratio) → IsAbove x → IsAbove y → AddsTo x y r → IsEqual r (plus x y)
sum_equal x y r hx hy h = grind arith

-- a child with this probability q and this value x counts beside what others add
one_more : (c q a x s sum y next t : Ratio) → IsAbove c → IsAbove q → IsAbove a → IsAbove x
    → IsAbove s → IsAbove sum → AddsTo s q t → MultipliesTo q x y → AddsTo sum y next
    → IsEqual (plus (times c (plus (times a s) sum)) (times (times c q) (plus a x)))
    (times c (plus (times a t) next))
one_more c q a x s sum y next t hc hq ha hx hs hsum adds product sums =
    let product_equal : IsEqual y (times q x) = grind arith in
    let aq = times_above a q ha hq in
    let qx = times_above q x hq hx in
    over (ap (plus (times c (plus (times a s) sum))) ((grind (arith, *ℤ_assoc))))
    (plus_right (times c (plus (times a s) sum)) (search mul_above)
    (times_right c hc (times_plus q a x hq ha hx))
    then back (times_plus c (plus (times a s) sum) (plus (times q a) (times q x)) hc
    (search mul_above) (search mul_above)))
    (ap (λ r. times c (plus (plus (times a s) sum) (plus r (times q x)))) ((grind (arith, *ℤ_comm))))
    then times_right c hc (plus_across (times a s) sum (times a q) (times q x)
    (times_above a s ha hs) hsum aq qx then plus_both _ _ _ _
    (back (times_plus a s q ha hs hq) then times_right a ha (back (sum_equal s q t hs hq adds)))
    (plus_right sum hsum (back product_equal)
    then back (sum_equal sum y next hsum product.0.den_above_zero sums)))

-- ---- the probabilities at a node

-- the probabilities of these actions are those of a node's children from this position on
abbrev AreDrawn : Game → Node → ℕ → List Action → Type 0
AreDrawn g n k actions = (i : ℕ) → chances_at g n (k + i)
    ≡ unwrap_or (option_and_then (λ a. a.probability) (slice_get actions i)) one_ratio

-- a node that has children has a set
pub has_set : (g : Game) (o : Option SetKey) (n : ℕ) → 0 < n → MatchOption o (n ≡ 0)
    (λ key. option_map (λ set. length set.actions) (set_at g key) ≡ Some n)
    → (key : SetKey) × (o ≡ Some key)
has_set g o n above e = grind arith

module _ (g : Game) (game : IsGame g) where
  -- one action at a set of chance for each child, with its probability
  drawn : (n : Node) (key : SetKey) (m : ℕ) → n.set ≡ Some key → (key.player == 0) ≡ true
      → option_map (λ set. length set.actions) (set_at g key) ≡ Some m → (actions : List Action)
      × (length actions ≡ m) × AddUpTo zero_ratio actions one_ratio × AreDrawn g n 1 actions
  drawn n key m at chance size =
      let set = set_there g key m size in (
        set.0.actions,
        set.2,
        subst (λ p. AreActions p set.0.actions) (eqb-true key.player 0 chance)
            (set_is g game key set.0 set.1).actions,
        λ i. cc (at, set.1, next_position set.0.actions i),
      )

  -- a node without children has none
  no_set : (o : Option SetKey) (m : ℕ) → m ≡ 0 → MatchOption o (m ≡ 0)
      (λ key. option_map (λ set. length set.actions) (set_at g key) ≡ Some m) → o ≡ None
  no_set None m nothing h = refl
  no_set (Some key) m nothing h =
      let set = set_there g key m h in
      absurd (omega (arith, (set_is g game key set.0 set.1).some_action, set.2))

  -- a player's move takes no part in the probability of a play
  no_chance : (n : Node) (key : SetKey) (k : ℕ) → n.set ≡ Some key → (key.player == 0) ≡ false
      → chances_at g n k ≡ one_ratio
  no_chance n key k at personal =
      let has = each_action g (λ a. a.probability ≡ None) (record { node = n; taken = k })
      (λ other is. let same : key ≡ other = cc in personal_set other (rw same at personal)) in
      grind (arith, has)
    where
      personal_set : (key : SetKey) → (key.player == 0) ≡ false
          → IfSome (set_at g key) (λ set. AllByRecursion (λ a. a.probability ≡ None) set.actions)
      personal_set key personal = grind (arith, each_set g game key)

-- what is not chosen at a player's node
is_other : (choices : SetKey → ℕ) (n : Node) (key : SetKey) (k : ℕ) → n.set ≡ Some key
    → (key.player == 0) ≡ false → ¬ (choices key ≡ k)
    → is_chosen choices (record { node = n; taken = k }) ≡ false
is_other choices n key k at personal differs = grind arith

-- ---- the value

module _ (g : Game) (choices : SetKey → ℕ) (player : ℕ) where
  abbrev q : Node → ℕ → Ratio
  q n k = chances_at g n k

  abbrev own : Node → Ratio
  own n = payoff_at g player n

  -- probability times payoff, if this probability and this payoff come before the play
  abbrev pub share : Ratio → Ratio → Play → Ratio
  share chance paid p =
      times (times chance (play_probability g p)) (plus paid (play_payoff g player p))

  -- the sum of those that follow the choices
  abbrev pub shares : Ratio → Ratio → List Play → Ratio
  shares chance paid ps =
      total (map (λ p. if follows choices p then share chance paid p else zero_ratio) ps)

  pub shares_are : (chance paid : Ratio) (f : Play → Ratio)
      → ((p : Play) → share chance paid p ≡ f p) → (ps : List Play)
      → shares chance paid ps ≡ total (map f (filter (follows choices) ps))
  shares_are chance paid f same [] = refl
  shares_are chance paid f same (p ∷ ps) =
      grind (arith, same p, shares_are chance paid f same ps, none_plus)

  pub payoff_is : shares one_ratio zero_ratio (plays g.tree) ≡ payoff g choices player
  payoff_is = grind (arith, shares_are, once_times, none_plus)

  module _ (chance paid : Ratio) where
    -- those of a child: each is one step longer
    after : (n : Node) (k : ℕ) (b : Bool) → is_chosen choices (record { node = n; taken = k }) ≡ b
        → (ps : List Play) → shares chance paid (map (from_node n k) ps)
        ≡ (if b then shares (times chance (q n k)) (plus paid (own n)) ps else zero_ratio)
    after n k true e [] = refl
    after n k false e [] = refl
    after n k true e (p ∷ ps) = grind (arith, after n k true e ps, *ℤ_assoc, plus_grouped)
    after n k false e (p ∷ ps) = grind (arith, e, after n k false e ps, none_plus)

    joined : (xs ys : List Play)
        → shares chance paid (xs ++ ys) ≡ plus (shares chance paid xs) (shares chance paid ys)
    joined [] ys = sym (none_plus (shares chance paid ys))
    joined (p ∷ xs) ys = grind (arith, joined xs ys, plus_grouped)

    pub first : (n : Node) (k : ℕ) (b : Bool)
        → is_chosen choices (record { node = n; taken = k }) ≡ b → (t : Tree Node) (ts : Trees Node)
        → shares chance paid (plays_from n k (more t ts))
        ≡ plus (if b then shares (times chance (q n k)) (plus paid (own n)) (plays t)
        else zero_ratio) (shares chance paid (plays_from n (k + 1) ts))
    first n k b e t ts = grind (arith, joined, after)

    none_later : (n : Node) (key : SetKey) (k : ℕ) (ts : Trees Node) → n.set ≡ Some key
        → (key.player == 0) ≡ false → choices key < k
        → shares chance paid (plays_from n k ts) ≡ zero_ratio
    none_later n key k none at personal less = refl
    none_later n key k (more t ts) at personal less =
        grind (arith, first, is_other, none_plus, none_later n key (k + 1) ts)

  -- what plays pay is what is paid before them and the value
  abbrev pub Pays : Ratio → List Play → Type 0
  Pays value ps = (chance paid : Ratio) → IsAbove chance → IsAbove paid
      → IsEqual (shares chance paid ps) (times chance (plus paid value))

  value_above : (value : Ratio) (ps : List Play) → Pays value ps → IsAbove value
  value_above value ps h =
      let all = h one_ratio zero_ratio (omega arith) (omega arith) in grind (arith, all.right)

  -- the same of children, if this probability and this sum come before them
  abbrev Adds : Node → ℕ → Ratio → Ratio → Trees Node → Ratio → Type 0
  Adds n k s sum ts value = (chance paid : Ratio) → IsAbove chance → IsAbove paid
      → IsEqual (plus (times chance (plus (times (plus paid (own n)) s) sum))
      (shares chance paid (plays_from n k ts)))
      (times chance (plus paid (plus (own n) value)))

  -- the value at a node of this set, or without one
  abbrev ValueAt : Node → Trees Node → Ratio → Option SetKey → Type 0
  ValueAt n ts value o = MatchOption o (IsTerminalValue g player n value)
      (λ key. IsMoveValue g player n key (IsChanceValue g choices player n 1 zero_ratio ts)
      (IsChildValue g choices player (choices key) ts) value)

  module _ (game : IsGame g) (spellable : IsSpellable g) where
    q_above : (n : Node) (k : ℕ) → IsAbove (q n k)
    q_above n k = (probability_fraction g spellable (record { node = n; taken = k })).den_above_zero

    before_above : (paid : Ratio) → IsAbove paid → (n : Node) → IsAbove (plus paid (own n))
    before_above paid h n = plus_above paid (own n) h (payoff_above g spellable player n)

    chance_pays : (n : Node) (ts : Trees Node) (below : Ratio)
        → Adds n 1 zero_ratio zero_ratio ts below → Pays (plus (own n) below) (plays_from n 1 ts)
    chance_pays n ts below adds c paid hc hp =
        let a = plus paid (own n) in
        let all = shares c paid (plays_from n 1 ts) in
        over (sym (none_plus all))
        (plus_left all (second_above (times c (plus (times a zero_ratio) zero_ratio)) all _
        (adds c paid hc hp))
        (back (over (ap (times c) (plus_none (times a zero_ratio)))
        (times_right c hc (times_zero a (before_above paid hp n)) then times_zero c hc) refl))
        then adds c paid hc hp) refl

    mutual
      pub tree_pays : (t : Tree Node) (value : Ratio) → AllByRecursion (HasChildren g) (flatten t)
          → IsValue g choices player t value → Pays value (plays t)
      tree_pays (branch n none) value children h chance paid hc hp =
          let is : value ≡ own n = rw (no_set g game n.set 0 refl children.0) at h in
          let all = times chance (plus paid (own n)) in
          over (plus_none (share chance paid (record { steps = []; leaf = n }))
          ∙ (λ i. times (times_once chance i) (plus paid (plus_none (own n) i))))
          (equal_refl all (times_above chance (plus paid (own n)) hc (before_above paid hp n)))
          (ap (λ r. times chance (plus paid r)) (sym is))
      tree_pays (branch n (more t ts)) value children h chance paid hc hp =
          let set = has_set g n.set (suc (count ts)) (omega arith) children.0 in
          let is = subst (ValueAt n (more t ts) value) set.1 h in
          let pays : Pays (plus (own n) is.0) (plays_from n 1 (more t ts)) =
          elim (cases_Bool (set.0.player == 0)) [
            | inl chance ↦
                let d = drawn g game n set.0 (suc (count ts)) set.1 chance
                (rw set.1 at children.0) in
                chance_pays n (more t ts) is.0 (chance_adds (more t ts) n 1 d.0 zero_ratio
                zero_ratio is.0 (λ k. grind (arith, set.1, chance)) (omega arith) (omega arith)
                children.1 d.1 d.2 d.3 (rw chance at is.1))
            | inr personal ↦
                child_pays (more t ts) n set.0 1 (choices set.0) is.0 set.1 personal (omega arith)
                children.1 (rw personal at is.1)
          ] in
          let below = mul_pos_right (own n).den is.0.den _ refl (value_above (plus (own n) is.0)
          (plays_from n 1 (more t ts)) pays)
          in
          pays chance paid hc hp
          then times_right chance hc (plus_right paid hp
          (back (sum_equal (own n) is.0 value (payoff_above g spellable player n) below is.2)))

      chance_adds : (ts : Trees Node) (n : Node) (k : ℕ) (actions : List Action)
          (s sum value : Ratio)
          → ((k : ℕ) → is_chosen choices (record { node = n; taken = k }) ≡ true) → IsAbove s
          → IsAbove sum → AllByRecursion (HasChildren g) (flatten_all ts)
          → length actions ≡ count ts → AddUpTo s actions one_ratio → AreDrawn g n k actions
          → IsChanceValue g choices player n k sum ts value → Adds n k s sum ts value
      chance_adds none n k [] s sum value chosen hs hsum children size all each h chance paid hc
          hp =
          let a = plus paid (own n) in
          over (plus_none (times chance (plus (times a s) sum))
          ∙ (λ i. times chance (plus ((ap (times a) all ∙ times_once a) i) sum)))
          (equal_refl (times chance (plus a sum)) (times_above chance (plus a sum) hc
          (plus_above a sum (before_above paid hp n) hsum)))
          (ap (times chance) (plus_grouped paid (own n) sum
          ∙ ap (λ r. plus paid (plus (own n) r)) (sym h)))
      chance_adds (more t ts) n k (_ ∷ actions) s sum value chosen hs hsum children size all each h
          chance paid hc hp =
          let c = all_parts (HasChildren g) (flatten t) (flatten_all ts) children in
          let a = plus paid (own n) in
          let ha = before_above paid hp n in
          let before = times chance (plus (times a s) sum) in
          let pays = tree_pays t h.0 c.0 h.3 in
          let here : k + 0 ≡ k = omega arith in
          let adds : AddsTo s (q n k) all.1 =
          subst (λ r. AddsTo s r all.1) (cc (here, each 0, all.2)) all.4 in
          let others = chance_adds ts n (k + 1) actions all.1 h.2 value chosen
          adds.1.den_above_zero h.5.1.den_above_zero c.1 (omega (arith, size)) all.5
          (λ i. let next : k + 1 + i ≡ k + suc i = omega arith in ap (q n) next ∙ each (suc i)) h.6
          chance paid hc hp in
          let first_shares = shares (times chance (q n k)) a (plays t) in
          let later = shares chance paid (plays_from n (k + 1) ts) in
          over (ap (plus before) (first chance paid n k true (chosen k) t ts)
          ∙ sym (plus_grouped before first_shares later))
          (plus_left later (second_above (times chance (plus (times a all.1) h.2)) later _ others)
          (plus_right before (times_above chance (plus (times a s) sum) hc
          (plus_above (times a s) sum (times_above a s ha hs) hsum))
          (pays (times chance (q n k)) a (times_above chance (q n k) hc (q_above n k)) ha)
          then one_more chance (q n k) a h.0 s sum h.1 h.2 all.1 hc (q_above n k) ha
          (value_above h.0 (plays t) pays) hs hsum adds h.4 h.5)
          then others) refl
      chance_adds ts n k actions s sum value chosen hs hsum children size all each h chance paid hc
          hp = absurd (omega (arith, size))

      child_pays : (ts : Trees Node) (n : Node) (key : SetKey) (k a : ℕ) (below : Ratio) → n.set
          ≡ Some key → (key.player == 0) ≡ false → choices key + 1 ≡ k + a
          → AllByRecursion (HasChildren g) (flatten_all ts)
          → IsChildValue g choices player a ts below → Pays (plus (own n) below) (plays_from n k ts)
      child_pays (more t ts) n key k (suc zero) below at personal place children h chance paid hc
          hp =
          let c = all_parts (HasChildren g) (flatten t) (flatten_all ts) children in
          let same : choices key ≡ k = omega arith in
          let once : times chance (q n k) ≡ chance =
          ap (times chance) (no_chance g game n key k at personal) ∙ times_once chance in
          over (first chance paid n k true (grind (arith, at, same)) t ts
          ∙ ap (plus (shares (times chance (q n k)) (plus paid (own n)) (plays t)))
          (none_later chance paid n key (k + 1) ts at personal (omega arith))
          ∙ plus_none (shares (times chance (q n k)) (plus paid (own n)) (plays t)))
          (tree_pays t below c.0 h (times chance (q n k)) (plus paid (own n))
          (times_above chance (q n k) hc (q_above n k)) (before_above paid hp n))
          (λ i. times (once i) (plus_grouped paid (own n) below i))
      child_pays (more t ts) n key k (suc (suc a)) below at personal place children h chance paid hc
          hp =
          let c = all_parts (HasChildren g) (flatten t) (flatten_all ts) children in
          over (first chance paid n k false (is_other choices n key k at personal
          (λ same. omega arith)) t ts ∙ none_plus (shares chance paid (plays_from n (k + 1) ts)))
          (child_pays ts n key (k + 1) (suc a) below at personal (omega arith) c.1 h chance paid hc
          hp) refl
      child_pays ts n key k a below at personal place children h chance paid hc hp = absurd h

    pub value_is_payoff : (value : Ratio) → IsValue g choices player g.tree value
        → IsEqual value (payoff g choices player)
    value_is_payoff value h =
        back (over (sym payoff_is)
        (tree_pays g.tree value game.children h one_ratio zero_ratio (omega arith) (omega arith))
        (once_times (plus zero_ratio value) ∙ none_plus value))

    pub one_value : (x y : Ratio)
        → IsValue g choices player g.tree x → IsValue g choices player g.tree y → x ≡ y
    one_value x y hx hy = grind (arith, value_is)

-- ---- all players

module _ (g : Game) (game : IsGame g) (spellable : IsSpellable g) (choices : SetKey → ℕ) where
  abbrev HasValue : ℕ → Type 0
  HasValue player = (value : Ratio) × IsValue g choices player g.tree value

  abbrev AreValues : List Ratio → Type 0
  AreValues row = (k : ℕ) → k < length g.players
      → value_of g choices (suc k) g.tree ≡ Some (at_place row k)

  pub are_payoffs : (row : List Ratio) → length row ≡ length g.players
      → AllByRecursion IsFraction row → AreValues row → ArePayoffs g choices row
  are_payoffs row count fractions h =
      zip_in_turn _ zero_ratio row (length g.players) count (λ k less. (
        fraction_at row k fractions,
        value_is_payoff g choices (suc k) game spellable (at_place row k) ((grind (arith, value_is))),
      ))

  pub have_values : (row : List Ratio) → AreValues row → HasValuesWith g choices
  have_values row h =
      all_in_turn HasValue 1 (length g.players) (λ k less.
      let next : 1 + k ≡ suc k = omega arith in rw next (at_place row k, (grind (arith, value_is))))

  pub lacks_value : (k : ℕ) → k < length g.players → value_of g choices (suc k) g.tree ≡ None
      → HasValuesWith g choices → ⊥
  lacks_value k less nothing h =
      let n = length g.players in
      let number : get_or (players_of g) k 0 ≡ suc k =
      omega (arith, get_or-numbers_from 1 n k 0 less) in
      grind (arith, none_computed, All-get_or, length-numbers_from, All-from_recursion)

pub ruleset payoffs_by_plays = (one_value, value_is_payoff)

pub ruleset payoff_steps = (are_payoffs, lacks_value, length-map, root_there)
