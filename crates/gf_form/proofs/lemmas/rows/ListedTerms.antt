-- What nodes add, part by part, and that their terms say it. Nodes with the same demands and outcome
-- have the shares of their sum.
use Rattle.gf_form.proofs.Common
use Common.{All-from_recursion, recursion_from_All, IsNonDecreasingBy, mul-le-mul_right, AreExactAt}
use Common.{unsigned_abs-mul, All-permutation, AllByRecursion, get_or_default, IsPermutation, Ratio}
use Common.{if◌then◌else◌, mul_pos_right, sum_of_shares, sum_of_terms, unsigned_abs, []}
use Common.{AreTermsOf, ComeAsWell, all_images, map-append, met_bounds, node_terms, pos}
use Common.{HasShares, IsExactAt, all_parts, dvd_trans, mul_above, node_term}
use Common.{number_at, all_both, take-add, *ℤ-zero, IsSumOf, one-dvd, term_of, ℕ}
use Common.{zero-*ℤ, add-*ℤ, get_or, length, pay_at, sum_by, Tells, arith, false, meets, suc}
use Common.{subst, Bool, Game, List, Path, Term, drop, ints, refl, take, true, zero, ◌*ℤ◌, ◌++◌, ap}
use Common.{◌+ℤ◌, ◌==◌, sym, ◌*◌, ◌+◌, ◌-◌, ◌/◌, ◌<◌, ◌∙◌, ◌∣◌, ◌∷◌, ◌≡◌, ◌≤◌, ℤ, rules}
use Rattle.gf_form.proofs.lemmas.rows.FlatRows.{all_in}
use Rattle.gf_form.proofs.lemmas.rows.MergedTerms.{size_append, sum_append, both_come, come_both}
use Rattle.gf_form.proofs.lemmas.rows.MergedTerms.{come_none, same_come, scaled}
use Rattle.std.specs.List.Retain.{DedupsFrom, IsDeduped}
use Rattle.std.proofs.lemmas.List.Sorted.{sum_by-IsPermutation, IsPermutation-map}
use Rattle.std.proofs.lemmas.List.Sorted.{IsPermutation-sym}
use Rattle.gf_form.specs.inner.rows.SummedNodes.{HaveSharesOf, IsNodeSum, IsPathSum}
use Rattle.gf_fraction.proofs.Offered.{*ℤ_right_comm, mul_pos_left}
use Rattle.std.proofs.Math.Nat.{mul-div-mul_right, mul-dvd-mul_right}
use borrow.Author.Differences.{sum_is_lem, same_in, down, up}
use Rattle.std.proofs.lemmas.List.Sums.{sum_by-cons}

-- ---- the shares of nodes

module _ (g : Game) (player den : ℕ) (steps choices : List ℕ) where
  pub shares_append : (xs ys : List Path) → sum_of_shares g player den steps choices (xs ++ ys)
      ≡ sum_of_shares g player den steps choices xs +ℤ sum_of_shares g player den steps choices ys
  shares_append xs ys = grind (arith, map-append, sum_append)

  pub bounds_append : (xs ys : List Path) → met_bounds g player den steps choices (xs ++ ys)
      ≡ met_bounds g player den steps choices xs + met_bounds g player den steps choices ys
  bounds_append xs ys = grind (arith, map-append, size_append)

-- ---- terms with the same demands, over a multiple of their denominator

module _ (den : ℕ) (steps choices : List ℕ) (demands : ℕ) where
  abbrev AreAlike : List Term → Type 0
  AreAlike es = AllByRecursion (λ (e : Term). e.head.demands ≡ demands) es

  all_met : (m : ℕ) → 0 < m → m ∣ den → meets steps choices demands ≡ true → (es : List Term)
      → AreAlike es → AreExactAt m [] [] es → AreExactAt den steps choices es
      × ((k : ℕ) → sum_of_terms k den steps choices es
      ≡ sum_of_terms k m [] [] es *ℤ pos (den / m))
  all_met m above divides met [] alike exact = (tt, λ k. sym (zero-*ℤ (pos (den / m))))
  all_met m above divides met (e ∷ es) alike exact =
      grind (arith, scaled, add-*ℤ, dvd_trans, all_met m above divides met es alike.1 exact.1)

-- ---- nodes with the same demands, and their term

nodes_told : (g : Game) (k den : ℕ) (steps choices : List ℕ) (rs : List Path) (e : Term)
    → AllByRecursion (λ (r : Path). r.demands ≡ e.head.demands) rs
    → (0 < e.head.den → HasShares g rs k e.head.den e.head.size (number_at (suc k) e))
    → IsExactAt den steps choices e → Tells g k den steps choices rs (e ∷ [])
nodes_told g k den steps choices rs e alike says exact =
    by (meets steps choices e.head.demands) refl
  where
    es : List Term
    es = node_terms g (suc k) rs

    same : AllByRecursion (λ (f : Term). f.head.demands ≡ e.head.demands) es
    same = all_images (λ (f : Term). f.head.demands ≡ e.head.demands) (node_term g (suc k)) rs alike

    by : (b : Bool) → meets steps choices e.head.demands ≡ b
        → Tells g k den steps choices rs (e ∷ [])
    by true met =
        let at = exact met in
        let h = says at.0 in
        let n = all_met den steps choices e.head.demands e.head.den at.0 at.1 met es same h.exact in
        let most = mul-le-mul_right (den / e.head.den) h.bound in
        grind (arith, h.number_is, n.1, unsigned_abs-mul)
    by false unmet =
        let n = come_none den steps choices [] [] (λ (f : Term). f.head.demands ≡ e.head.demands)
        (λ f alike. ap (meets steps choices) alike ∙ unmet) es same in
        grind (arith, n.sums)

-- ---- lists of them

pub nodes_more : (g : Game) (players : ℕ) (rs group : List Path) (es : List Term) (e : Term)
    → AllByRecursion (λ (r : Path). r.demands ≡ e.head.demands) group
    → (0 < e.head.den → (k : ℕ) → k < players
    → HasShares g group k e.head.den e.head.size (number_at (suc k) e))
    → AreTermsOf g players rs es → AreTermsOf g players (rs ++ group) (es ++ e ∷ [])
nodes_more g players rs group es e alike says before k less den steps choices exact =
    let both = all_parts (IsExactAt den steps choices) es (e ∷ []) exact in
    let told = before k less den steps choices both.0 in
    let here = nodes_told g k den steps choices group e alike (λ above. says above k less) both.1.0
    in
    grind (arith, shares_append, sum_append, bounds_append, size_append, map-append, all_both)

-- what the code reads at a place
abbrev pub no_node : Path
no_node = record { weight = 0; bound = 0; den = 0; demands = 0; outcome = 0 }

abbrev pub node_at : List Path → ℕ → Path
node_at nodes place = get_or nodes place no_node

-- the next nodes, which demand the same
module _ (rs : List Path) (sorted : IsNonDecreasingBy (λ (r : Path). r.demands) rs) (at end : ℕ)
    (onward : at < end) (within : end ≤ length rs) (same : (d : Path) (k : ℕ) → at ≤ k → k < end
    → (get_or rs k d).demands ≡ (get_or rs at d).demands) where
  abbrev group : List Path
  group = take (end - at) (drop at rs)

  pub joined : take end rs ≡ take at rs ++ group
  joined =
      let whole : end ≡ at + (end - at) = omega (arith, onward) in
      ap (λ (n : ℕ). take n rs) whole ∙ take-add at (end - at) rs

  pub all_alike : AllByRecursion (λ (r : Path). r.demands ≡ (node_at rs at).demands) group
  all_alike =
      all_in (λ (r : Path). r.demands ≡ (node_at rs at).demands) no_node rs (end - at) at
      (omega (arith, onward, within))
      (λ k from to. same no_node k from (omega (arith, to, onward)))

  pub rises : (d : Path) → end < length rs → (node_at rs at).demands ≤ (get_or rs end d).demands
  rises d there = grind (arith, get_or_default)

-- ---- terms in another order

module _ (k den : ℕ) (steps choices : List ℕ) where
  abbrev counted : Term → ℤ
  counted e = if meets steps choices e.head.demands
      then number_at k e *ℤ pos (den / e.head.den) else pos 0

  abbrev total : List Term → ℤ
  total es = sum_of_terms k den steps choices es

  -- the sum of integers as a difference of two sums
  as_sizes : (es : List Term) → up (total es) + sum_by (λ e. down (counted e)) es
      ≡ sum_by (λ e. up (counted e)) es + down (total es)
  as_sizes [] = refl
  as_sizes (e ∷ es) = search (rules, sum_is_lem, sum_by-cons, up, down, as_sizes es)

  sum_permuted : (es fs : List Term) → IsPermutation es fs → total es ≡ total fs
  sum_permuted es fs h = grind (arith, sum_by-IsPermutation, up, down, same_in, as_sizes)

come_permuted : (es fs : List Term) → IsPermutation es fs → ComeAsWell es fs
come_permuted es fs order den steps choices all = record {
  exact = let P = IsExactAt den steps choices in
      recursion_from_All P es
      (All-permutation P fs es (IsPermutation-sym es fs order) (All-from_recursion P fs all));
  sums = λ k. sum_permuted k den steps choices es fs order;
}

-- ---- lists of nodes

pub have_same : (rs : List Path) → HaveSharesOf rs rs
have_same rs g player = same_come (node_terms g player rs)

pub have_then : (rs ss ts : List Path) → HaveSharesOf rs ss → HaveSharesOf ss ts
    → HaveSharesOf rs ts
have_then rs ss ts first second g player den steps choices exact =
    let on = second g player den steps choices exact in
    let come = first g player den steps choices on.exact in
    record { exact = come.exact; sums = λ k. come.sums k ∙ on.sums k }

pub have_both : (rs ss ps qs : List Path) → HaveSharesOf rs ss → HaveSharesOf ps qs
    → HaveSharesOf (rs ++ ps) (ss ++ qs)
have_both rs ss ps qs first second g player =
    let terms = node_terms g player in
    let f = node_term g player in
    rw (map-append f rs ps, map-append f ss qs)
    (come_both (terms rs) (terms ss) (terms ps) (terms qs) (first g player) (second g player))

pub have_permuted : (rs ss : List Path) → IsPermutation rs ss → HaveSharesOf rs ss
have_permuted rs ss order g player =
    come_permuted (node_terms g player rs) (node_terms g player ss)
    (IsPermutation-map (node_term g player) rs ss order)

-- ---- two nodes and their sum

-- where nothing is paid, each number is zero
pub no_number : (path : Path) (pay : Ratio) (k : ℕ) → pay.num ≡ pos 0
    → number_at k (term_of path pay) ≡ pos 0
no_number path pay zero nothing = rw nothing (ap pos (omega arith))
no_number path pay (suc k) nothing = grind (arith, *ℤ-zero)

module _ (pay : Ratio) (a b sum : Path) where
  number_added : (q r k : ℕ) → sum.weight ≡ a.weight * q + b.weight * r
      → sum.bound ≡ a.bound * q + b.bound * r
      → number_at k (term_of sum pay)
      ≡ number_at k (term_of a pay) *ℤ pos q +ℤ number_at k (term_of b pay) *ℤ pos r
  number_added q r zero weight bound = rw bound (ap pos (omega arith))
  number_added q r (suc zero) weight bound =
      rw weight (add-*ℤ (pos (a.weight * q)) (pos (b.weight * r)) pay.num
      ∙ (λ i. *ℤ_right_comm (pos a.weight) (pos q) pay.num i
      +ℤ *ℤ_right_comm (pos b.weight) (pos r) pay.num i))
  number_added q r (suc (suc k)) weight bound = grind (arith, zero-*ℤ)

  terms_added : (0 < sum.den → IsPathSum a b sum) → 0 < (term_of sum pay).head.den
      → IsSumOf (term_of a pay) (term_of b pay) (term_of sum pay)
  terms_added adds known = by (unsigned_abs pay.num == 0) refl
    where
      by : (none : Bool) → (unsigned_abs pay.num == 0) ≡ none
          → IsSumOf (term_of a pay) (term_of b pay) (term_of sum pay)
      by true is =
          let nothing : pay.num ≡ pos 0 = grind (arith, ints) in
          rw is (grind (arith, one-dvd, no_number, zero-*ℤ))
      by false is =
          let above = rw is at known in
          let pays : 0 < pay.den = mul_pos_right sum.den pay.den _ refl above in
          let told = adds (mul_pos_left sum.den pay.den _ refl above) in
          rw is (grind (arith, mul_above, mul-dvd-mul_right, mul-div-mul_right, number_added))

sum_shares : (r s sum : Path) → IsNodeSum r s sum → HaveSharesOf (r ∷ s ∷ []) (sum ∷ [])
sum_shares r s sum h g player den steps choices exact =
    both_come den steps choices (node_term g player r) (node_term g player s)
    (node_term g player sum) h.first_demands h.second_demands
    (rw (h.first_outcome, h.second_outcome)
    (terms_added (pay_at g player sum) r s sum h.adds)) exact.0

-- ---- node by node

-- neighbours are added up where this test says so
module _ {F : Type 0} (R : F → Path → Path → Bool → F → Path → Path → Type 0)
    (told : (s : F) (x k : Path) (b : Bool) (t : F) (y l : Path) → R s x k b t y l
    → (b ≡ true → IsNodeSum k x l) × (b ≡ false → l ≡ k) × (y ≡ x)) where
  adds_up : (xs : List Path) (s : F) (k : Path) (ys : List Path)
      → DedupsFrom R s k xs ys → HaveSharesOf (k ∷ xs) ys
  adds_up [] s k ys h = subst (HaveSharesOf (k ∷ [])) (sym h) (have_same (k ∷ []))
  adds_up (x ∷ xs) s k ys (true, t, y, l, r, h) =
      have_then (k ∷ x ∷ xs) (l ∷ xs) ys
      (have_both (k ∷ x ∷ []) (l ∷ []) xs xs (sum_shares k x l ((told s x k true t y l r).0 refl))
      (have_same xs))
      (adds_up xs t l ys h)
  adds_up (x ∷ xs) s k ys (false, t, y, l, r, h) =
      let same = told s x k false t y l r in
      rw (h.2, same.1 refl) (have_both (k ∷ []) (k ∷ []) (x ∷ xs) h.0 (have_same (k ∷ []))
      (adds_up xs t x h.0 (subst (λ (z : Path). DedupsFrom R t z xs h.0) same.2 h.1)))

  pub added_up : (s : F) (rs ys : List Path) → IsDeduped R s rs ys → HaveSharesOf rs ys
  added_up s [] ys h = subst (HaveSharesOf []) (sym h.told) (have_same [])
  added_up s (r ∷ rs) ys h = adds_up rs s r ys h.told

-- ---- terms

-- the terms of nodes are terms of those whose shares they have
pub terms_of_sums : (g : Game) (players : ℕ) (rs ss : List Path) (es : List Term)
    → ((k : ℕ) → ComeAsWell (node_terms g (suc k) rs) (node_terms g (suc k) ss))
    → AreTermsOf g players ss es → AreTermsOf g players rs es
terms_of_sums g players rs ss es have told k less den steps choices exact =
    let on = told k less den steps choices exact in
    let come = have k den steps choices on.exact in grind arith
