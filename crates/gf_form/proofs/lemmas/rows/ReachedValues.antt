-- A value over the common denominator, with the shares that it is the sum of: of a payoff, of a sum
-- and of a multiple. The value of a tree is the sum of the shares of the nodes that choices reach.
use Rattle.gf_form.proofs.Common
use Common.{false_from_ne_true, mul-le-mul_right, unsigned_abs-mul, AllByRecursion, InformationSet}
use Common.{dvd-mul_right, if◌then◌else◌, option_map_or, sum_of_shares, append_assoc, chance_value}
use Common.{paid_at_node, path_handing, sum_of_terms, unsigned_abs, HasChildren, IsSpellable, Ratio}
use Common.{child_value, descent_all, flatten_all, is_personal, AreExactAt, IsFraction, append-nil}
use Common.{chances_at, map-append, met_bounds, node_terms, product_of, value_over, zero_ratio, inl}
use Common.{AreDigits, IsExactAt, all_parts, by_chance, demanding, dvd_trans, eqb-false, is_sum_at}
use Common.{mul_above, node_term, payoff_at, root_path, *ℤ_assoc, HasValue, IsWithin, choosing, inr}
use Common.{comes_by, eqb-true, followed, steps_of, times_of, *ℤ-zero, *ℤ_comm, descent, flatten, ℕ}
use Common.{node_at, plus_of, reached, zero-*ℤ, +ℤ_idl, +ℤ_idr, FitsAt, IsGame, Option, SetKey, map}
use Common.{add-*ℤ, branch, eq-eqb, length, ne_eqb, pay_at, set_at, sum_of, Trees, arith, count, []}
use Common.{false, meets, subst, value, Bool, Game, List, Node, None, Path, Some, Stop, Term, Tree}
use Common.{ints, kept, more, none, refl, true, zero, ◌*ℤ◌, ◌++◌, ◌+ℤ◌, ◌==◌, pos, suc, sym, ◌*◌, ℤ}
use Common.{◌+◌, ◌/◌, ◌<◌, ◌^◌, ◌∙◌, ◌∣◌, ◌∷◌, ◌≡◌, ◌≤◌, ◌⊎◌, ap}
use Rattle.std.proofs.Math.Nat.{eq-zero_of_zero-dvd, le-mul_of_pos_right}
use Rattle.gf_form.specs.inner.rows.ReachedNodes.{demanding_path, has_room, is_sum, met_if, drawn}
use Rattle.gf_form.proofs.lemmas.rows.MergedTerms.{product_over, none_first, own_value, sum_over}
use Rattle.gf_form.proofs.lemmas.rows.MergedTerms.{sum_size, quotient_of_product, quotient_above}
use Rattle.gf_form.proofs.lemmas.rows.ListedTerms.{bounds_append, shares_append}
use Rattle.gf_form.proofs.lemmas.values.ValuesComputed.{probability_fraction, payoff_fraction}
use Rattle.gf_form.proofs.lemmas.values.ValuesComputed.{zero_fraction, chance_size, none_times}
use Rattle.gf_form.proofs.lemmas.values.ValuesComputed.{times_zero, plus_zero, zero_plus, zero_is}
use Rattle.gf_form.proofs.lemmas.rows.Digits.{none_within, no_demands, none_pack, none_met}
use Rattle.gf_form.proofs.lemmas.values.Walks.{paid_is}
use Rattle.gf_form.proofs.lemmas.rows.Descents.{set_there, tree_kept}

-- ---- integers

-- a number whose size times another one is within bounds
within_part : (z : ℤ) (b limit : ℕ) → 1 ≤ b → unsigned_abs z * b ≤ limit → limit < 2 ^ 127
    → IsWithin z
within_part z b limit some le h = omega (arith, le, h, le-mul_of_pos_right (unsigned_abs z) some)

sum_below : (x y : ℤ) (b : ℕ) → unsigned_abs (x +ℤ y) * b ≤ unsigned_abs x * b + unsigned_abs y * b
sum_below x y b = omega (arith, mul-le-mul_right b (sum_size x y))

-- ---- parts of the common denominator

-- over what is left of the denominator after a path that has so much of it, or zero, which demands
-- nothing of the denominators
abbrev pub IsPart : ℕ → ℕ → Ratio → ℤ → Type 0
IsPart den by r n = ((by ∣ den) × HasValue r n (den / by)) ⊎ ((r ≡ zero_ratio) × (n ≡ pos 0))

module _ (den : ℕ) (den_above : 0 < den) (den_within : den < 2 ^ 127) (by : ℕ) where
  left_within : by ∣ den → den / by < 2 ^ 127
  left_within divides = grind (arith, den_within, den_above, divides)

  sum_part : (x y : Ratio) (m n : ℤ) → IsFraction x → IsFraction y → IsPart den by x m
      → IsPart den by y n → IsWithin m → IsWithin n → IsWithin (m +ℤ n)
      → (r : Ratio) × (sum_of x y ≡ Some r) × IsFraction r × IsPart den by r (m +ℤ n)
  sum_part x y m n fx fy (inl px) (inl py) hm hn hs =
      grind (
        arith,
        sum_over x y m n (den / by) fx fy (quotient_above by den den_above px.0) (left_within px.0)
            px.1 py.1 hm hn hs,
      )
  sum_part x y m n fx fy (inr px) py hm hn hs = grind (arith, zero_plus)
  sum_part x y m n fx fy (inl px) (inr py) hm hn hs = grind (arith, plus_zero, +ℤ_idr)

  product_part : (p y : Ratio) (n : ℤ) → IsFraction p → IsFraction y
      → IsPart den (by * p.den) y n → IsWithin (p.num *ℤ n)
      → (r : Ratio) × (product_of p y ≡ Some r) × IsFraction r × IsPart den by r (p.num *ℤ n)
  product_part p y n fp fy (inl py) hn =
      let part : by ∣ den = dvd_trans by (dvd-mul_right by p.den) py.0 in
      let product = product_over p y n (den / by) (den / (by * p.den)) fp fy
      (quotient_of_product by p.den den den_above py.0) (quotient_above by den den_above part)
      (left_within part) py.1 hn in
      (product.0, product.1, product.2, inl (part, product.3))
  product_part p y n fp fy (inr py) hn = grind (arith, times_zero, zero_fraction)

-- ---- values

module _ (g : Game) (player den : ℕ) where
  abbrev shares : List Path → ℤ
  shares rs = sum_of_shares g player den [] [] rs

  abbrev bounds : List Path → ℕ
  bounds rs = met_bounds g player den [] [] rs

  -- The value is that of an amount over what is left of the denominator after a path with these
  -- numbers; the shares of these nodes are the path's weight times the amount. On an idle path, any
  -- amount will do.
  pub record IsValuedBy (value : Option Ratio) (weight bound by : ℕ) (rs : List Path) : Type 0 where
    pub ratio : Ratio
    pub value_is : value ≡ Some ratio
    pub fraction : IsFraction ratio
    pub amount : ℤ
    pub amount_is : 1 ≤ bound → IsPart den by ratio amount
    pub shares_are : shares rs ≡ pos weight *ℤ amount
    pub size : unsigned_abs amount * bound ≤ bounds rs

  abbrev pub IsValued : Option Ratio → Path → List Path → Type 0
  IsValued value path rs = IsValuedBy value path.weight path.bound path.den rs

  abbrev Fits : List Path → Type 0
  Fits rs = FitsAt g player den [] [] rs

  pub fits_parts : (xs ys : List Path) → Fits (xs ++ ys) → Fits xs × Fits ys
  fits_parts xs ys fits =
      grind (
        arith,
        bounds_append,
        all_parts (IsExactAt den [] []) (node_terms g player xs) (node_terms g player ys) (rw map-append at fits.exact),
      )

  -- where nothing is added, the value counts for nothing, or is zero
  pub zero_valued : {pay : Ratio} (path : Path) (rs : List Path) → IsFraction pay
      → (1 ≤ path.bound → pay ≡ zero_ratio) → shares rs ≡ pos 0 → IsValued (Some pay) path rs
  zero_valued {pay} path rs f unpaid nothing = record {
    ratio = pay;
    value_is = refl;
    fraction = f;
    amount = pos 0;
    amount_is = λ some. inr (unpaid some, refl);
    shares_are = nothing ∙ sym (*ℤ-zero (pos path.weight));
    size = omega arith;
  }

  pub sum_valued : {a b : Option Ratio} {weight bound by : ℕ} (xs ys : List Path) → 1 ≤ bound
      → Fits (xs ++ ys) → IsValuedBy a weight bound by xs → IsValuedBy b weight bound by ys
      → IsValuedBy (plus_of a b) weight bound by (xs ++ ys)
  sum_valued {weight = weight} {bound = bound} {by = by} xs ys some fits x y =
      let both = sum_below x.amount y.amount bound in
      let lists = bounds_append g player den [] [] xs ys in
      let small = λ (z : ℤ) (le : unsigned_abs z * bound ≤ bounds (xs ++ ys)).
      within_part z bound (bounds (xs ++ ys)) some le fits.within in
      let sum = sum_part den fits.den_above_zero fits.den_within by x.ratio y.ratio x.amount
      y.amount x.fraction y.fraction (x.amount_is some) (y.amount_is some)
      (small x.amount (omega (arith, x.size, lists)))
      (small y.amount (omega (arith, y.size, lists)))
      (small (x.amount +ℤ y.amount) (omega (arith, x.size, y.size, both, lists))) in
      record {
        ratio = sum.0;
        value_is = (λ i. plus_of (x.value_is i) (y.value_is i)) ∙ sum.1;
        fraction = sum.2;
        amount = x.amount +ℤ y.amount;
        amount_is = λ some. sum.3;
        shares_are = shares_append g player den [] [] xs ys
            ∙ (λ i. x.shares_are i +ℤ y.shares_are i)
            ∙ sym ((*ℤ_comm (pos weight) (x.amount +ℤ y.amount) ∙ add-*ℤ x.amount y.amount (pos
            weight) ∙ (λ i. *ℤ_comm x.amount (pos weight) i +ℤ *ℤ_comm y.amount (pos weight) i)));
        size = omega (arith, x.size, y.size, both, lists);
      }

  -- ---- a node's own payoff

  module _ (own : Path) (f : IsFraction (pay_at g player own)) (fits : Fits (own ∷ [])) where
    abbrev pay : Ratio
    pay = pay_at g player own

    own_part : IsPart den own.den pay
        (pay.num *ℤ pos (den / (node_term g player own).head.den))
    own_part = by (unsigned_abs pay.num == 0) refl (fits.exact.0 refl)
      where
        by : (b : Bool) → (unsigned_abs pay.num == 0) ≡ b
            → (0 < (if b then 1 else own.den * pay.den))
            × ((if b then 1 else own.den * pay.den) ∣ den)
            → IsPart den own.den pay
            (pay.num *ℤ pos (den / (if b then 1 else own.den * pay.den)))
        by true is h =
            let none = zero_is pay f (omega (arith, ints, eqb-true (unsigned_abs pay.num) 0 is)) in
            grind (arith, zero-*ℤ)
        by false is h = inl (
          dvd_trans own.den (dvd-mul_right own.den pay.den) h.1,
          own_value pay own.den den fits.den_above_zero h.1,
        )

    own_valued : IsValued (Some pay) own (own ∷ [])
    own_valued =
        let q = den / (node_term g player own).head.den in
        record {
          ratio = pay;
          value_is = refl;
          fraction = f;
          amount = pay.num *ℤ pos q;
          amount_is = λ some. own_part;
          shares_are = +ℤ_idr ((pos own.weight *ℤ pay.num) *ℤ pos q)
              ∙ *ℤ_assoc (pos own.weight) pay.num (pos q);
          size =
              let times = ap (λ k. k * own.bound) (unsigned_abs-mul pay.num (pos q)) in
              omega (arith, times);
        }

  pub leaf_valued : {pay : Ratio} (own : Path) → pay_at g player own ≡ pay → IsFraction pay
      → Fits (own ∷ []) → IsValued (Some pay) own (own ∷ [])
  leaf_valued own pays f fits = rw (sym pays) (own_valued own (rw pays f) fits)

  -- ---- a node on an idle path, which pays nothing

  module _ (own : Path) (nothing : pay_at g player own ≡ zero_ratio) where
    pub none_shared : (rs : List Path) → shares (own ∷ rs) ≡ shares rs
    none_shared rs = grind (arith, none_first, *ℤ-zero)

    -- it adds nothing to the value of a child
    pub idle_move : {below : Option Ratio} {rs : List Path} → own.bound ≡ 0
        → IsValued below own rs
        → IsValued (plus_of (Some zero_ratio) below) own (own ∷ rs)
    idle_move idle h = grind (arith, zero_plus, none_shared)

  -- ---- a child of a chance move

  -- numbers of a path that are not known stand for any, since the value is zero there
  known : (room : Bool) {value : Option Ratio} {xs : List Path} (on : Path) → 0 < den
      → IsValuedBy value (if room then on.weight else 0) (if room then on.bound else 1)
      (if room then on.den else 0) xs → IsValued value on xs
  known true on above h = h
  known false on above h = grind (arith, eq-zero_of_zero-dvd, zero-*ℤ)

  module _ (c : Ratio) (fc : IsFraction c) (sign : c.num ≡ pos (unsigned_abs c.num)) (path : Path)
      (some : 1 ≤ path.bound) {value : Option Ratio} {xs : List Path} (fits : Fits xs)
      (child : IsValued value (by_chance path c) xs) where
    abbrev a : ℕ
    a = unsigned_abs c.num

    abbrev on : Path
    on = record {
      weight = path.weight * a;
      bound = path.bound * a;
      den = path.den * c.den;
      demands = path.demands;
      outcome = path.outcome;
    }

    h : IsValued value on xs
    h = known (has_room path c) on fits.den_above_zero child

    abbrev part : ℤ
    part = c.num *ℤ h.amount

    product : (r : Ratio) × (product_of c h.ratio ≡ Some r) × IsFraction r
        × IsPart den path.den r part
    product = by (a == 0) refl
      where
        by : (b : Bool) → (a == 0) ≡ b → (r : Ratio) × (product_of c h.ratio ≡ Some r)
            × IsFraction r × IsPart den path.den r part
        by true is =
            let none : c.num ≡ pos 0 = sign ∙ ap pos (eqb-true a 0 is) in
            grind (arith, none_times, h, zero_fraction, zero-*ℤ)
        by false is =
            let likely = eqb-false a 0 is in
            product_part den fits.den_above_zero fits.den_within path.den c h.ratio h.amount fc
            h.fraction (h.amount_is (mul_above path.bound a some (omega (arith, likely))))
            (within_part part path.bound (bounds xs) some
            (grind (arith, ap (λ k. k * path.bound) (unsigned_abs-mul c.num h.amount)))
            fits.within)

    pub times_valued : IsValued (times_of c value) path xs
    times_valued = record {
      ratio = product.0;
      value_is = ap (times_of c) h.value_is ∙ product.1;
      fraction = product.2;
      amount = part;
      amount_is = λ some. product.3;
      shares_are = cc (h.shares_are, *ℤ_assoc (pos path.weight) (pos a) h.amount, sign);
      size = (grind (arith, ap (λ k. k * path.bound) (unsigned_abs-mul c.num h.amount)));
    }

-- ---- the value of a tree is the sum of the shares of the nodes that choices reach

module _ (g : Game) (game : IsGame g) (spellable : IsSpellable g) (choose : SetKey → ℕ)
    (valid : (key : SetKey) (set : InformationSet) → set_at g key ≡ Some set
    → is_personal key ≡ true → (1 ≤ choose key) × (choose key ≤ length set.actions))
    (player den : ℕ) where
  -- these nodes have the value, if they fit
  abbrev IfFits : Option Ratio → Path → List Path → Type 0
  IfFits value path rs = FitsAt g player den [] [] rs → IsValued g player den value path rs

  abbrev entered : (ℕ → Option Path) → ℕ → Trees Node → List (Stop Path)
  entered states k ts = descent_all g (choosing path_handing g is_personal choose) states k ts

  -- the nodes below one of this set, by the path from it on
  abbrev below_followed : Node → Trees Node → Path → SetKey → List (Stop Path)
  below_followed n ts path key = entered
      (λ k. if comes_by is_personal choose key k then Some (drawn g n path k) else None) 1 ts

  abbrev value_below : Node → Trees Node → SetKey → Option Ratio
  value_below n ts key =
      if key.player == 0
      then chance_value g choose player (chances_at g n) 1 (Some zero_ratio) ts
      else child_value g choose player (choose key) ts

  -- what is below a node, on any path that is not idle where chance moves
  abbrev Below : Node → Trees Node → Type 0
  Below n ts = (path : Path) (key : SetKey) → n.set ≡ Some key → (key.player ≡ 0 → 1 ≤ path.bound)
      → IfFits (value_below n ts key) path (map node_at (below_followed n ts path key))

  awake_valued : (n : Node) (ts : Trees Node) (path : Path) → 1 ≤ path.bound → Below n ts
      → (o : Option SetKey) → n.set ≡ o
      → IfFits (value_over (payoff_at g player n) o (value_below n ts)) path
      (met_if false false path (paid_at_node g n) ∷ map node_at (option_map_or
      (below_followed n ts (met_if false false path (paid_at_node g n))) o []))
  awake_valued n ts path some below None at fits =
      leaf_valued _ _ _ _ (paid_is g player n) (payoff_fraction g spellable player n) fits
  awake_valued n ts path some below (Some key) at fits =
      let own : Path = met_if false false path (paid_at_node g n) in
      let rs = map node_at (below_followed n ts own key) in
      let both = fits_parts _ _ _ (own ∷ []) rs fits in
      sum_valued _ _ _ (own ∷ []) rs some fits
      (leaf_valued _ _ _ own (paid_is g player n) (payoff_fraction g spellable player n) both.0)
      (below own key at (λ _. some) both.1)

  node_valued : (n : Node) (ts : Trees Node) (path : Path) → Below n ts
      → (o : Option SetKey) → n.set ≡ o → (idle : Bool) → (path.bound == 0) ≡ idle
      → (adds : Bool) → is_sum_at (paid_at_node g n) o ≡ adds
      → IfFits (value_over (payoff_at g player n) o (value_below n ts)) path
      (met_if idle adds path (paid_at_node g n) ∷ map node_at (option_map_or
      (below_followed n ts (met_if idle adds path (paid_at_node g n))) o []))
  node_valued n ts path below o at false idle adds is = grind (arith, eqb-false, awake_valued)
  node_valued n ts path below None at true idle true is = absurd cc
  node_valued n ts path below None at true idle false is =
      grind (arith, eqb-true, zero_valued, payoff_fraction, none_shared)
  node_valued n ts path below (Some key) at true idle true is = λ fits.
      let anew = met_if true true path (paid_at_node g n) in
      let on = awake_valued n ts anew (omega arith) below (Some key) at fits in
      grind arith
  node_valued n ts path below (Some key) at true idle false is = λ fits.
      let unbound = eqb-true path.bound 0 idle in
      let move : ¬ (key.player ≡ 0) × (paid_at_node g n ≡ 0) = grind arith in
      let pay : payoff_at g player n ≡ zero_ratio = cc (paid_is g player n) in
      let own = met_if true false path (paid_at_node g n) in
      rw pay (idle_move _ _ _ own refl unbound (below own key at (λ chance. absurd (move.0 chance))
      (fits_parts _ _ _ (own ∷ []) _ fits).1))

  -- ---- the tree

  -- none of these children is entered
  none_entered : (states : ℕ → Option Path) (k : ℕ) (ts : Trees Node)
      → ((j : ℕ) → k ≤ j → states j ≡ None) → entered states k ts ≡ []
  none_entered states k none h = refl
  none_entered states k (more t ts) h =
      grind (arith, none_entered states (k + 1) ts (λ j from. h j (omega (arith, from))))

  either : (path : Path) (b : Bool) (player : ℕ) → (player == 0) ≡ b → {v w : Option Ratio}
      {rs : List Path} → (player ≡ 0 → IfFits v path rs)
      → (¬ (player ≡ 0) → IfFits w path rs) → IfFits (if b then v else w) path rs
  either path true player is lot one = lot (eqb-true player 0 is)
  either path false player is lot one = one (eqb-false player 0 is)

  mutual
    valued : (t : Tree Node) (path : Path) → AllByRecursion (HasChildren g) (flatten t)
        → IfFits (value g choose player t) path (followed g choose path t)
    valued (branch n ts) path children =
        node_valued n ts path
        (λ p key at some. either p (key.player == 0) key.player refl
        (λ chance. lot_valued ts n key 1 p _ [] (λ k. grind (arith, at, chance)) at chance
        children.1 (some chance) (zero_valued _ _ _ p [] zero_fraction (λ _. refl) refl))
        (λ personal. let there : (1 ≤ choose key) × (choose key ≤ count ts) =
        grind (arith, set_there, false_from_ne_true) in
        action_valued ts (choose key) (choose key) 1 p _
        (λ k. grind (arith, at, false_from_ne_true)) refl there.0 there.1 children.1))
        n.set refl (path.bound == 0) refl (is_sum g n) refl

    lot_valued : (ts : Trees Node) (n : Node) (key : SetKey) (k : ℕ) (path : Path)
        (states : ℕ → Option Path) {sum : Option Ratio} (before : List Path)
        → ((j : ℕ) → states j ≡ Some (by_chance path (chances_at g n j)))
        → n.set ≡ Some key → key.player ≡ 0 → AllByRecursion (HasChildren g) (flatten_all ts)
        → 1 ≤ path.bound → IsValued g player den sum path before
        → IfFits (chance_value g choose player (chances_at g n) k sum ts) path
        (before ++ map node_at (entered states k ts))
    lot_valued none n key k path states before each at chance children some h =
        λ fits. rw append-nil h
    lot_valued (more t ts) n key k path states before each at chance children some h =
        rw (each k, map-append node_at) (λ fits.
        let c = chances_at g n k in
        let xs = followed g choose (by_chance path c) t in
        let ys = map node_at (entered states (k + 1) ts) in
        let both = all_parts (HasChildren g) (flatten t) (flatten_all ts) children in
        let whole = rw (sym (append_assoc before xs ys)) at fits in
        let sums = (fits_parts _ _ _ (before ++ xs) ys whole).0 in
        let part = (fits_parts _ _ _ before xs sums).1 in
        rw (sym (append_assoc before xs ys))
        (lot_valued ts n key (k + 1) path states (before ++ xs) each at chance both.1 some
        (sum_valued _ _ _ before xs some sums h
        (times_valued _ _ _ c (probability_fraction g spellable (record { node = n; taken = k }))
        (chance_size g game n key k at chance) path some part
        (valued t (by_chance path c) both.0 part)))
        whole))

    action_valued : (ts : Trees Node) (position action k : ℕ) (path : Path)
        (states : ℕ → Option Path)
        → ((j : ℕ) → states j ≡ (if action == j then Some path else None))
        → action + 1 ≡ position + k → 1 ≤ position → position ≤ count ts
        → AllByRecursion (HasChildren g) (flatten_all ts)
        → IfFits (child_value g choose player position ts) path (map node_at (entered states k ts))
    action_valued (more t ts) (suc zero) action k path states each at some within children =
        let here : states k ≡ Some path = grind (arith, each, eq-eqb) in
        let later = none_entered states (k + 1) ts (λ j from. grind (arith, each, ne_eqb)) in
        rw (here, later, append-nil)
        (valued t path (all_parts (HasChildren g) (flatten t) (flatten_all ts) children).0)
    action_valued (more t ts) (suc (suc position)) action k path states each at some within
        children =
        let here : states k ≡ None = grind (arith, each, ne_eqb) in
        rw here (action_valued ts (suc position) action (k + 1) path states each (omega (arith, at))
        (omega arith) (omega (arith, within))
        (all_parts (HasChildren g) (flatten t) (flatten_all ts) children).1)
    action_valued ts position action k path states each at some within children = grind arith

-- ---- the nodes that choices reach

-- a path without its demands
abbrev freed : Path → Path
freed path = demanding_path path 0

-- what the nodes that are met come to
module _ (g : Game) (player den : ℕ) (steps choices : List ℕ) where
  abbrev terms : List (Stop Path) → List Term
  terms vs = node_terms g player (map node_at vs)

  abbrev met_stops : List (Stop Path) → List (Stop Path)
  met_stops vs = kept (λ path. meets steps choices path.demands) freed vs

  met_sum : (k : ℕ) (vs : List (Stop Path)) → sum_of_terms k den steps choices (terms vs)
      ≡ sum_of_terms k den [] [] (terms (met_stops vs))
  met_sum k [] = refl
  met_sum k (v ∷ vs) = grind (arith, met_sum k vs, +ℤ_idl)

  met_exact : (vs : List (Stop Path)) → AreExactAt den steps choices (terms vs)
      → AreExactAt den [] [] (terms (met_stops vs))
  met_exact [] h = h
  met_exact (v ∷ vs) h = grind (arith, met_exact vs h.1)

  met_fits : (vs : List (Stop Path)) → FitsAt g player den steps choices (map node_at vs)
      → FitsAt g player den [] [] (map node_at (met_stops vs))
  met_fits vs h = grind (arith, met_sum, met_exact)

-- the player counts from 1
pub reached_value : (g : Game) → IsGame g → IsSpellable g → (steps choose : SetKey → ℕ)
    (actions choices : List ℕ) → AreDigits g is_personal steps choose actions choices
    → (player den : ℕ)
    → FitsAt g player den (steps_of actions) choices (reached g steps root_path g.tree)
    → (v : Ratio) × (value g choose player g.tree ≡ Some v) × IsFraction v
    × HasValue v (sum_of_shares g player den (steps_of actions) choices
    (reached g steps root_path g.tree)) den
reached_value g game spellable steps choose actions choices digits player den fits =
    let vs = descent g (demanding path_handing g steps) root_path g.tree in
    let fs = descent g (choosing path_handing g is_personal choose) root_path g.tree in
    let left = tree_kept digits path_handing freed
    (record { demands_are = λ n path k d. grind arith; below_freed = λ n path k d. grind arith })
    g.tree game.children root_path (no_demands actions)
    (sym (none_pack actions), none_within actions) in
    let same : met_stops g player den (steps_of actions) choices vs ≡ fs =
    grind (arith, none_met) in
    let whole = valued g game spellable choose digits.chosen player den g.tree root_path
    game.children (subst (λ vs. FitsAt g player den [] [] (map node_at vs)) same
    (met_fits g player den (steps_of actions) choices vs fits)) in
    let sums = met_sum g player den (steps_of actions) choices 1 vs in
    let over : den / 1 ≡ den = omega arith in grind arith
