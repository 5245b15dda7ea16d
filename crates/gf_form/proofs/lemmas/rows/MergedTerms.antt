-- Numbers over one denominator: sums and products of fractions fit if the numerators are within
-- bounds. What terms come to, part by part, and while they are merged.
use Rattle.gf_form.proofs.Common
use Common.{lowest_of-fraction, pos_of_dvd_of_pos, unsigned_abs-mul, *ℤ-cancel_right, dvd-mul_right}
use Common.{product_of-some, AllByRecursion, IsLcm-from_gcd, div-mul_cancel, if◌then◌else◌, IsEqual}
use Common.{mul_pos_right, dvd-mul_left, sum_of_terms, unsigned_abs, with_demands, sum_of-some, map}
use Common.{AreExactAt, ComeAsWell, IsFraction, append-nil, equal_refl, false≢true, product_of, pos}
use Common.{scaled_num, AreMerged, IsExactAt, IsProduct, all_parts, dvd_trans, lowest_of, mul_above}
use Common.{number_at, plus_both, *ℤ_assoc, +ℤ_assoc, HasValue, IsWithin, all_both, IsSumOf, +ℤ_idl}
use Common.{SumFits, lowered, zero-*ℤ, ComeTo, add-*ℤ, mod-lt, sum_of, ◌then◌, IsGcd, IsLcm, IsSum}
use Common.{Ratio, arith, false, meets, subst, times, List, Some, Term, back, ints, plus, suc}
use Common.{refl, zero, ◌*ℤ◌, ◌++◌, ◌+ℤ◌, sym, ◌%◌, ◌*◌, ◌+◌, ◌-◌, ◌/◌, ◌<◌, ◌^◌, ◌∙◌, ◌∣◌, ℕ}
use Common.{◌∷◌, ◌≡◌, ◌≤◌, ◌⊎◌, [], ap, ℤ}
use Rattle.std.proofs.lemmas.Nat.Gcd.{IsGcd-from_zero, IsGcd-from_mod, IsGcd-swap, le_of_dvd}
use Rattle.gf_fraction.proofs.Offered.{lowest_of-value, *-cancel_right, dvd_of_dvd-mul, same_parts}
use Rattle.gf_fraction.proofs.Offered.{mul_pos_left, times_both}

-- ---- quotients

-- a divisor of a number above zero, and what is left of it
pub quotient_above : (d s : ℕ) → 0 < s → d ∣ s → 0 < s / d
quotient_above d s above h = mul_pos_left (s / d) d s (div-mul_cancel d h) above

pub quotient_of_product : (d b s : ℕ) → 0 < s → d * b ∣ s → b * (s / (d * b)) ≡ s / d
quotient_of_product d b s above h =
    let some : 0 < d * b = pos_of_dvd_of_pos h above in
    let part : d ∣ s = dvd_trans d (dvd-mul_right d b) h in
    *-cancel_right (b * (s / (d * b))) (s / d) d (mul_pos_left d b (d * b) refl some)
    (omega (arith, div-mul_cancel (d * b) h, div-mul_cancel d part))

-- by way of a multiple
quotient_through : (d m s : ℕ) → 0 < d → d ∣ m → m ∣ s → d ∣ s → s / d ≡ m / d * (s / m)
quotient_through d m s above dm ms ds =
    let inner : m / d * d ≡ m = div-mul_cancel d dm in
    let outer : s / m * m ≡ s = div-mul_cancel m ms in
    *-cancel_right (s / d) (m / d * (s / m)) d above
    (omega (arith, ap (λ k. k * (s / m)) inner, outer, div-mul_cancel d ds))

-- a number that is brought over one denominator and then over another
pub scaled : (z : ℤ) (d m den : ℕ) → 0 < d → d ∣ m → m ∣ den
    → (z *ℤ pos (m / d)) *ℤ pos (den / m) ≡ z *ℤ pos (den / d)
scaled z d m den above dm mden = grind (arith, *ℤ_assoc, quotient_through, dvd_trans)

gcd_there : (n a b : ℕ) → b < n → (g : ℕ) × IsGcd a b g
gcd_there zero a b h = absurd (omega arith)
gcd_there (suc n) a zero h = (a, IsGcd-from_zero a 0 refl)
gcd_there (suc n) a (suc b) h =
    let above : 0 < suc b = omega arith in
    let later = gcd_there n (suc b) (a % suc b) (omega (arith, mod-lt a above)) in
    (later.0, IsGcd-from_mod a (suc b) later.0 later.1)

-- ---- a fraction over a denominator

abbrev over_den : ℤ → ℕ → Ratio
over_den n d = record { num = n; den = d }

is_equal : (x : Ratio) (n : ℤ) (s : ℕ) → 0 < x.den → 0 < s → HasValue x n s
    → IsEqual x (over_den n s)
is_equal x n s hx hs v = record { left = hx; right = hs; crosswise = v }

-- its own denominator divides each over which its value is had
den_divides : (x : Ratio) (n : ℤ) (s : ℕ) → IsFraction x → HasValue x n s → x.den ∣ s
den_divides x n s f v =
    let sizes : unsigned_abs x.num * s ≡ unsigned_abs n * x.den =
    sym (unsigned_abs-mul x.num (pos s)) ∙ ap unsigned_abs v ∙ unsigned_abs-mul n (pos x.den) in
    dvd_of_dvd-mul x.den (unsigned_abs x.num) s (IsGcd-swap _ _ _ f.lowest)
    (subst (λ k. x.den ∣ k) (sym sizes) (dvd-mul_left x.den (unsigned_abs n)))

over_is : (x : Ratio) (n : ℤ) (s : ℕ) → 0 < x.den → HasValue x n s → x.den ∣ s
    → x.num *ℤ pos (s / x.den) ≡ n
over_is x n s above v h =
    *ℤ-cancel_right (x.num *ℤ pos (s / x.den)) n x.den above
    (cc (*ℤ_assoc x.num (pos (s / x.den)) (pos x.den), div-mul_cancel x.den h))

-- over what is left of a denominator after a part of it
pub own_value : (x : Ratio) (by s : ℕ) → 0 < s → by * x.den ∣ s
    → HasValue x (x.num *ℤ pos (s / (by * x.den))) (s / by)
own_value x by s above h = grind (arith, *ℤ_assoc, quotient_of_product)

-- ---- sums

pub sum_size : (a b : ℤ) → unsigned_abs (a +ℤ b) ≤ unsigned_abs a + unsigned_abs b
sum_size a b = omega (arith, ints)

smaller_within : (z n : ℤ) (q : ℕ) → 0 < q → z *ℤ pos q ≡ n → IsWithin n → IsWithin z
smaller_within z n q above e h = grind arith

module _ (x y : Ratio) (m n : ℤ) (s : ℕ) (hx : IsFraction x) (hy : IsFraction y)
    (above : 0 < s) (within : s < 2 ^ 127) (vx : HasValue x m s) (vy : HasValue y n s)
    (hm : IsWithin m) (hn : IsWithin n) (hs : IsWithin (m +ℤ n)) where
  fits : SumFits x y
  fits =
      let g = gcd_there (suc y.den) x.den y.den (omega arith) in
      let d = x.den * (y.den / g.0) in
      let lcm : IsLcm x.den y.den d =
      IsLcm-from_gcd x.den y.den g.0 (pos_of_dvd_of_pos g.1.1 hy.den_above_zero) g.1 in
      let xs = den_divides x m s hx vx in
      let ys = den_divides y n s hy vy in
      let ds : d ∣ s = lcm.least s xs ys in
      let q = s / d in
      let q_above : 0 < q = quotient_above d s above ds in
      let left = scaled x.num x.den d s hx.den_above_zero lcm.left ds
      ∙ over_is x m s hx.den_above_zero vx xs in
      let right = scaled y.num y.den d s hy.den_above_zero lcm.right ds
      ∙ over_is y n s hy.den_above_zero vy ys in
      let both = add-*ℤ (scaled_num x d) (scaled_num y d) (pos q) ∙ (λ i. left i +ℤ right i) in
      record {
        den = d;
        least = lcm;
        den_within = omega (arith, within, le_of_dvd above ds);
        left_within = smaller_within (scaled_num x d) m q q_above left hm;
        right_within = smaller_within (scaled_num y d) n q q_above right hn;
        sum_within = smaller_within (scaled_num x d +ℤ scaled_num y d) (m +ℤ n) q q_above both hs;
      }

  abbrev whole : Ratio
  whole = lowest_of (m +ℤ n) s

  whole_fraction : IsFraction whole
  whole_fraction = lowest_of-fraction (m +ℤ n) s above within hs

  same_den : IsEqual (plus (over_den m s) (over_den n s)) (over_den (m +ℤ n) s)
  same_den = grind (arith, mul_above, add-*ℤ, *ℤ_assoc)

  is_sum : IsSum whole x y
  is_sum =
      let chain : IsEqual whole (plus x y) =
      is_equal whole (m +ℤ n) s whole_fraction.den_above_zero above
      (lowest_of-value (m +ℤ n) s above)
      then back same_den
      then back (plus_both x (over_den m s) y (over_den n s)
      (is_equal x m s hx.den_above_zero above vx) (is_equal y n s hy.den_above_zero above vy)) in
      chain.crosswise

  -- a sum over one denominator fits, and is over it
  pub sum_over : (r : Ratio) × (sum_of x y ≡ Some r) × IsFraction r × HasValue r (m +ℤ n) s
  sum_over = grind (arith, sum_of-some, fits, whole_fraction, is_sum, lowest_of-value)

-- ---- products

module _ (p y : Ratio) (n : ℤ) (s t : ℕ) (hp : IsFraction p) (hy : IsFraction y)
    (is : p.den * t ≡ s) (above : 0 < s) (within : s < 2 ^ 127) (vy : HasValue y n t)
    (hn : IsWithin (p.num *ℤ n)) where
  abbrev product : Ratio
  product = lowest_of (p.num *ℤ n) s

  product_fraction : IsFraction product
  product_fraction = lowest_of-fraction (p.num *ℤ n) s above within hn

  is_product : IsProduct product p y
  is_product =
      let some : 0 < t = mul_pos_right p.den t s is above in
      let chain : IsEqual product (times p y) =
      is_equal product (p.num *ℤ n) s product_fraction.den_above_zero above
      (lowest_of-value (p.num *ℤ n) s above)
      then same_parts (over_den (p.num *ℤ n) s) (times p (over_den n t)) above refl (sym is)
      then times_both p p (over_den n t) y (equal_refl p hp.den_above_zero)
      (back (is_equal y n t hy.den_above_zero some vy)) in
      chain.crosswise

  -- a product of a fraction with another over a denominator is over the product of the denominators
  pub product_over : (r : Ratio) × (product_of p y ≡ Some r) × IsFraction r
      × HasValue r (p.num *ℤ n) s
  product_over = grind (arith, product_of-some, product_fraction, is_product, lowest_of-value)

-- ---- what terms come to, part by part, and while they are merged

pub same_come : (es : List Term) → ComeAsWell es es
same_come es den steps choices exact = record { exact = exact; sums = λ k. refl }

-- ---- the first term

module _ (k den : ℕ) (steps choices : List ℕ) (e : Term) (es : List Term) where
  pub none_first : number_at k e ≡ pos 0
      → sum_of_terms k den steps choices (e ∷ es) ≡ sum_of_terms k den steps choices es
  none_first none = grind (arith, zero-*ℤ, +ℤ_idl)

-- ---- parts of a list

module _ (den : ℕ) (steps choices : List ℕ) where
  pub sum_append : (k : ℕ) (xs ys : List Term) → sum_of_terms k den steps choices (xs ++ ys)
      ≡ sum_of_terms k den steps choices xs +ℤ sum_of_terms k den steps choices ys
  sum_append k [] ys = sym (+ℤ_idl (sum_of_terms k den steps choices ys))
  sum_append k (x ∷ xs) ys = grind (arith, +ℤ_assoc, sum_append k xs ys)

  sizes_above : (es : List Term) → sum_of_terms 0 den steps choices es
      ≡ pos (unsigned_abs (sum_of_terms 0 den steps choices es))
  sizes_above [] = refl
  sizes_above (e ∷ es) = grind (arith, sizes_above es)

  pub size_append : (xs ys : List Term)
      → unsigned_abs (sum_of_terms 0 den steps choices (xs ++ ys))
      ≡ unsigned_abs (sum_of_terms 0 den steps choices xs)
      + unsigned_abs (sum_of_terms 0 den steps choices ys)
  size_append xs ys = rw (sum_append 0 xs ys, sizes_above xs, sizes_above ys) refl

pub come_to_both : (den : ℕ) (steps choices others_steps others_choices : List ℕ)
    (es xs fs ys : List Term) → ComeTo den steps choices es others_steps others_choices xs
    → ComeTo den steps choices fs others_steps others_choices ys
    → ComeTo den steps choices (es ++ fs) others_steps others_choices (xs ++ ys)
come_to_both den steps choices others_steps others_choices es xs fs ys one other =
    grind (arith, all_both, sum_append)

pub come_both : (es xs fs ys : List Term) → ComeAsWell es xs → ComeAsWell fs ys
    → ComeAsWell (es ++ fs) (xs ++ ys)
come_both es xs fs ys first second den steps choices exact =
    let parts = all_parts (IsExactAt den steps choices) xs ys exact in
    come_to_both den steps choices steps choices es xs fs ys (first den steps choices parts.0)
    (second den steps choices parts.1)

-- ---- with other demands

module _ (den : ℕ) (steps choices others_steps others_choices : List ℕ) (P : Term → Type 0) where
  -- terms come to the same with demands that are met as theirs are
  pub come_moved : (demands : Term → ℕ) → ((e : Term) → P e
      → meets steps choices e.head.demands ≡ meets others_steps others_choices (demands e))
      → (es : List Term) → AllByRecursion P es
      → AreExactAt den others_steps others_choices (map (λ e. with_demands (demands e) e) es)
      → ComeTo den steps choices es others_steps others_choices
      (map (λ e. with_demands (demands e) e) es)
  come_moved demands met [] all h = record { exact = tt; sums = λ k. refl }
  come_moved demands met (e ∷ es) all h =
      grind (arith, met e all.0, come_moved demands met es all.1 h.1)

  -- and to nothing if none is met
  pub come_none : ((e : Term) → P e → meets steps choices e.head.demands ≡ false)
      → (es : List Term) → AllByRecursion P es
      → ComeTo den steps choices es others_steps others_choices []
  come_none unmet [] all = record { exact = tt; sums = λ k. refl }
  come_none unmet (e ∷ es) all = grind (arith, false≢true, unmet e all.0, come_none unmet es all.1)

-- ---- a term in place of two

module _ (den : ℕ) (steps choices : List ℕ) (a b sum : Term)
    (first : sum.head.demands ≡ a.head.demands) (second : sum.head.demands ≡ b.head.demands)
    (adds : 0 < sum.head.den → IsSumOf a b sum) (exact : IsExactAt den steps choices sum) where
  met_first : meets steps choices sum.head.demands ≡ meets steps choices a.head.demands
  met_first = ap (meets steps choices) first

  met_second : meets steps choices sum.head.demands ≡ meets steps choices b.head.demands
  met_second = ap (meets steps choices) second

  both_sum : (k : ℕ)
      → (if meets steps choices sum.head.demands
      then number_at k sum *ℤ pos (den / sum.head.den) else pos 0)
      ≡ (if meets steps choices a.head.demands
      then number_at k a *ℤ pos (den / a.head.den) else pos 0)
      +ℤ (if meets steps choices b.head.demands
      then number_at k b *ℤ pos (den / b.head.den) else pos 0)
  both_sum k = grind (arith, add-*ℤ, scaled, met_first, met_second)

  pub both_come : ComeTo den steps choices (a ∷ b ∷ []) steps choices (sum ∷ [])
  both_come = record {
    exact = grind (arith, met_first, dvd_trans, met_second);
    sums = λ k. omega (arith, ints, both_sum k);
  }

-- ---- while terms are merged

-- what is left of terms, as those that are made and two kinds of those that are still to come
abbrev pub Merging : ℕ → ℕ → List Term → List Term → List Term → List Term → Type 0
Merging step action terms left more others = AreMerged step action terms (left ++ (more ++ others))

-- one more is made of some that come first
pub take_next : (step action : ℕ) (terms left more others xs ys : List Term) (t : Term)
    → ComeAsWell (xs ++ ys) (t ∷ []) → Merging step action terms left (xs ++ more) (ys ++ others)
    → Merging step action terms (left ++ t ∷ []) more others
take_next step action terms left more others xs ys t come before den steps choices exact =
    let P = IsExactAt den steps choices in
    let done = all_parts P (left ++ t ∷ []) (more ++ others) exact in
    let made = all_parts P left (t ∷ []) done.0 in
    let rest = all_parts P more others done.1 in
    let own = come den steps choices made.1 in
    let each = all_parts P xs ys own.exact in
    let parts = before den steps choices (grind (arith, all_both)) in record {
      exact = parts.exact;
      sums = λ k.
          let whole = simp sum_append at (parts.sums k) in
          let one = simp sum_append at (own.sums k) in
          simp sum_append (omega (arith, ints, whole, one));
    }

-- ---- before anything is merged

-- those of a range that demand nothing at the digit, those that demand the action, and others
abbrev pub IsFree : ℕ → Term → Type 0
IsFree step e = e.head.demands < step

abbrev pub IsOwn : ℕ → ℕ → Term → Type 0
IsOwn step action e =
    (action * step ≤ e.head.demands) × (e.head.demands < action * step + step)

abbrev pub IsOther : ℕ → ℕ → Term → Type 0
IsOther step action e = (step ≤ e.head.demands)
    × (e.head.demands < action * step ⊎ action * step + step ≤ e.head.demands)

module _ (step action : ℕ) (steps choices : List ℕ) where
  pub free_met : (e : Term) → IsFree step e → meets (step ∷ steps) (action ∷ choices) e.head.demands
      ≡ meets steps choices (e.head.demands - 0)
  free_met e free = grind arith

  pub own_met : (e : Term) → 1 ≤ action → IsOwn step action e
      → meets (step ∷ steps) (action ∷ choices) e.head.demands
      ≡ meets steps choices (e.head.demands - action * step)
  own_met e some own = grind arith

  pub raised_met : 1 ≤ action → (e : Term) → IsFree step e → meets steps choices e.head.demands
      ≡ meets (step ∷ steps) (action ∷ choices) (e.head.demands + action * step)
  raised_met some e free = grind (arith, back, own_met)

  pub other_unmet : (e : Term) → IsOther step action e
      → meets (step ∷ steps) (action ∷ choices) e.head.demands ≡ false
  other_unmet e h = grind arith

-- what is left of four ranges of terms
pub first_parts : (step action : ℕ) (terms free between own rest : List Term) → 1 ≤ action
    → terms ≡ free ++ (between ++ (own ++ rest)) → AllByRecursion (IsFree step) free
    → AllByRecursion (IsOther step action) between → AllByRecursion (IsOwn step action) own
    → AllByRecursion (IsOther step action) rest
    → AreMerged step action terms (map (lowered 0) free ++ map (lowered (action * step)) own)
first_parts step action terms free between own rest some joined are_free are_between are_own
    are_rest den steps choices exact =
    let both = come_to_both den (step ∷ steps) (action ∷ choices) steps choices in
    let lower = come_moved den (step ∷ steps) (action ∷ choices) steps choices in
    let none = come_none den (step ∷ steps) (action ∷ choices) steps choices
    (IsOther step action) (other_unmet step action steps choices) in
    let parts = all_parts (IsExactAt den steps choices) (map (lowered 0) free)
    (map (lowered (action * step)) own) exact in
    let owns = both own _ rest [] (lower (IsOwn step action) (λ e. e.head.demands - action * step)
    (λ e. own_met step action steps choices e some) own are_own parts.1) (none rest are_rest) in
    rw joined (both free _ (between ++ (own ++ rest)) _ (lower (IsFree step)
    (λ e. e.head.demands - 0) (free_met step action steps choices) free are_free parts.0)
    (both between [] (own ++ rest) _ (none between are_between) (rw append-nil at owns)))
