-- Terms that fit together over one denominator, and those of them that add something. The rows of a
-- game's profiles, by its terms.
use Rattle.gf_form.proofs.Common
use Common.{AreProfileNumbers, *ℤ-cancel_right, AllByRecursion, div-mul_cancel, digit_actions, Bool}
use Common.{full_profiles, if◌then◌else◌, strategies_at, paid_reached, sum_of_terms, unsigned_abs}
use Common.{IsSpellable, all_choices, AreExactAt, AreInOrder, HasShares, SettlesAt}
use Common.{ComeAsWell, choices_by, node_terms, HasDigits, Digits, all_terms, number_at}
use Common.{root_path, *ℤ_assoc, AreAlike, IsShaped, all_both, div_self, Game, dvd_refl, steps_of}
use Common.{ArePaid, Settles, is_paid, one-dvd, List, row_at, Ratio, Terms, arith, false, Path}
use Common.{Term, ints, refl, true, ℕ, ◌*ℤ◌, ◌++◌, ◌+ℤ◌, map, pos, suc, sym, ◌*◌, ◌+◌, ◌-◌, ◌/◌}
use Common.{◌<◌, ◌^◌, ◌∙◌, ◌∣◌, ◌∷◌, ◌≡◌, ◌≤◌, [], ℤ, reached, zero-*ℤ, IsGame, add-*ℤ}
use Common.{get_or, length}
use Rattle.gf_fraction.proofs.Offered.{*ℤ_right_comm}
use Rattle.gf_form.specs.inner.rows.Paying.{AreFitting, AreListed, IsOver, sizes_of}
use Rattle.gf_form.specs.inner.rows.SummedNodes.{HaveSharesOf}
use Rattle.gf_form.proofs.lemmas.rows.MergedTerms.{none_first, sum_append, come_both, same_come}
use Rattle.gf_form.proofs.lemmas.rows.FlatRows.{none_ordered}
use Rattle.gf_form.proofs.lemmas.strategies.StrategiesByNumber.{all_at}
use Rattle.gf_form.proofs.lemmas.values.ValuesComputed.{empty_row}
use Rattle.gf_form.proofs.lemmas.rows.ListedTerms.{nodes_more, terms_of_sums, no_number}
use Rattle.std.specs.List.{filter}
use Rattle.gf_form.proofs.lemmas.rows.ReachedValues.{reached_value}

sizes_append : (xs ys : List Term) → sizes_of (xs ++ ys) ≡ sizes_of xs + sizes_of ys
sizes_append [] ys = omega arith
sizes_append (x ∷ xs) ys = omega (arith, sizes_append xs ys)

-- ---- all over one denominator

chosen : (b : Bool) (n : ℕ) (s : ℤ) (most : ℕ) → unsigned_abs s ≤ most
    → unsigned_abs ((if b then pos n *ℤ pos 1 else pos 0) +ℤ s) ≤ n + most
chosen b n s most less = grind (arith, ints)

module _ (den : ℕ) (above : 0 < den) (steps choices : List ℕ) where
  are_exact : (es : List Term) → AllByRecursion (IsOver den) es
      → AreExactAt den steps choices es
  are_exact [] all = tt
  are_exact (e ∷ es) all = rw all.0 ((λ met. (above, dvd_refl den)), are_exact es all.1)

  sizes_met : (es : List Term) → AllByRecursion (IsOver den) es
      → unsigned_abs (sum_of_terms 0 den steps choices es) ≤ sizes_of es
  sizes_met [] all = omega arith
  sizes_met (e ∷ es) all = grind (arith, div_self, chosen, sizes_met es all.1)

-- ---- over a multiple of the denominator

module _ (k den most : ℕ) (above : 0 < den) (steps choices : List ℕ) where
  over_most : (z : ℤ) (d : ℕ) → d ≡ den → d ∣ most
      → (z *ℤ pos (most / d)) *ℤ pos den ≡ (z *ℤ pos (den / d)) *ℤ pos most
  over_most z d same divides =
      let own : most / d * den ≡ most = rw (sym same) (div-mul_cancel d divides) in
      let one : den / d ≡ 1 = rw same (div_self above) in
      grind (arith, *ℤ_assoc)

  one_scaled : (b : Bool) (z : ℤ) (d : ℕ) → d ≡ den → (b ≡ true → (0 < d) × (d ∣ most))
      → (if b then z *ℤ pos (most / d) else pos 0) *ℤ pos den
      ≡ (if b then z *ℤ pos (den / d) else pos 0) *ℤ pos most
  one_scaled b z d same exact = grind (arith, over_most, zero-*ℤ)

  all_scaled : (es : List Term) → AllByRecursion (IsOver den) es
      → AreExactAt most steps choices es
      → sum_of_terms k most steps choices es *ℤ pos den
      ≡ sum_of_terms k den steps choices es *ℤ pos most
  all_scaled [] all exact = zero-*ℤ (pos den) ∙ sym (zero-*ℤ (pos most))
  all_scaled (e ∷ es) all exact = grind (arith, one_scaled, add-*ℤ, all_scaled es all.1 exact.1)

-- ---- those that are left

-- one more term of nodes with its demands, which is left without its size unless it adds nothing
module _ (rows : List (List Ratio)) (rs group : List Path) (size more : ℕ) (old new : Terms)
    (e : Term) (alike : AllByRecursion (λ (r : Path). r.demands ≡ e.head.demands) group)
    (says : (k : ℕ) → k < old.players → 0 < e.head.den → (g : Game) → ArePaid g rows
    → HasShares g group k e.head.den e.head.size (number_at (suc k) e))
    (over : e.head.den ≡ old.den) (sum : more ≡ size + e.head.size) (within : more < 2 ^ 127)
    (same : AreAlike new old) (order : AreInOrder new) (before : AreFitting rows rs size old) where
  with_it : ((k den : ℕ) (steps choices : List ℕ) → sum_of_terms (suc k) den steps choices
      (all_terms new) ≡ sum_of_terms (suc k) den steps choices (before.terms ++ e ∷ []))
      → AllByRecursion (IsOver new.den) (all_terms new) → AreFitting rows (rs ++ group) more new
  with_it sums left_over = record {
    terms = before.terms ++ e ∷ [];
    told = λ g are. rw same.0 (nodes_more g old.players rs group before.terms e alike
        (λ above k there. says k there above g are) (before.told g are));
    over = rw same.1 (all_both (IsOver old.den) before.terms (e ∷ []) before.over (over, tt));
    sizes = grind (arith, sizes_append);
    within = within;
    left_over = left_over;
    sums = sums;
    order = order;
  }

  pub fitting_more : all_terms new ≡ all_terms old
      ++ record { head = record e.head { size = 0 }; row = e.row } ∷ []
      → AreFitting rows (rs ++ group) more new
  fitting_more is = grind (arith, with_it, sum_append, all_both)

  pub fitting_same : all_terms new ≡ all_terms old
      → ((k : ℕ) → number_at (suc k) e ≡ pos 0) → AreFitting rows (rs ++ group) more new
  fitting_same is none =
      with_it (λ k den steps choices. grind (arith, none_first, sum_append))
      (rw (is, same.1) before.left_over)

pub first_fitting : (rows : List (List Ratio)) (terms : Terms) → all_terms terms ≡ []
    → IsShaped terms → AreFitting rows [] 0 terms
first_fitting rows terms none shaped = grind (arith, none_ordered)

pub settled_as_well : (rows : List (List Ratio)) (rs : List Path) (size players : ℕ) (left : Terms)
    → 0 < left.den → left.den < 2 ^ 127 → left.players ≡ players → AreFitting rows rs size left
    → AreListed rows players rs (all_terms left)
settled_as_well rows rs size players left above den_within same_players fit = record {
  terms = fit.terms;
  told = λ g are k less. fit.told g are k (rw same_players less);
  settle = λ g number steps choices settles k less most most_above within exact small.
      let den = left.den in
      let base = settles k less den above den_within
      (are_exact den above steps choices fit.terms fit.over) (grind (arith, sizes_met)) in
      let whole = sum_of_terms (suc k) den steps choices fit.terms in
      let left_whole = sum_of_terms (suc k) most steps choices (all_terms left) in
      let num = base.payoff.num in
      let own = base.payoff.den in
      let same : whole *ℤ pos most ≡ left_whole *ℤ pos den =
      grind (arith, all_scaled) in record {
        payoff = base.payoff;
        fraction = base.fraction;
        is_value = base.is_value;
        over = *ℤ-cancel_right (num *ℤ pos most) (left_whole *ℤ pos own) den above
            (grind (arith, *ℤ_right_comm));
      };
}

-- ---- the nodes that pay somebody something have all shares

module _ (g : Game) (rows : List (List Ratio)) (are : ArePaid g rows) (k : ℕ) where
  abbrev terms : List Path → List Term
  terms rs = node_terms g (suc k) rs

  kept_come : (rs : List Path) → ComeAsWell (terms rs) (terms (filter (is_paid rows) rs))
  kept_come [] = same_come []
  kept_come (r ∷ rs) = by (is_paid rows r) refl (kept_come rs)
    where
      fs : List Path
      fs = filter (is_paid rows) rs

      by : (b : Bool) → is_paid rows r ≡ b → ComeAsWell (terms rs) (terms fs)
          → ComeAsWell (terms (r ∷ rs)) (terms (if b then r ∷ fs else fs))
      by true is = come_both (terms (r ∷ [])) _ (terms rs) (terms fs) (same_come (terms (r ∷ [])))
      by false is = come_both (terms (r ∷ [])) [] (terms rs) (terms fs)
          ((rw (sym (are.paid_is r.outcome k) ∙ empty_row (row_at rows r.outcome) (grind arith) k)
          (grind (arith, one-dvd, none_first, no_number))))

-- ---- what the terms settle

-- the terms of nodes are terms of those whose shares they have
pub listed_sums : (rows : List (List Ratio)) (players : ℕ) (rs ss : List Path) (left : List Term)
    → HaveSharesOf rs ss → AreListed rows players ss left → AreListed rows players rs left
listed_sums rows players rs ss left have listed = record {
  terms = listed.terms;
  told = λ g are. terms_of_sums g players rs ss listed.terms (λ k. have g (suc k))
      (listed.told g are);
  settle = listed.settle;
}

module _ (g : Game) (game : IsGame g) (spellable : IsSpellable g) (rows : List (List Ratio))
    (paid : ArePaid g rows) (numbers : List ℕ) (full : AreProfileNumbers g numbers) (d : Digits)
    (digits : HasDigits g d) (terms : Terms)
    (listed : AreListed rows (length g.players) (paid_reached rows g
    (choices_by g (map (λ own. own.items) d.steps.items))) (all_terms terms)) where
  settled : (number : ℕ) → number < length (full_profiles g)
      → Settles g number (steps_of (digit_actions d))
      (get_or (all_choices (digit_actions d)) number []) listed.terms
  settled number below k less den above within exact small =
      let actions = digit_actions d in
      let choices = get_or (all_choices actions) number [] in
      let steps = choices_by g (map (λ own. own.items) d.steps.items) in
      let h = terms_of_sums g (length g.players) (reached g steps root_path g.tree)
      (paid_reached rows g steps) listed.terms (λ k. kept_come g rows paid k _)
      (listed.told g paid) k less den (steps_of actions) choices exact in
      let v = reached_value g game spellable steps
      (choices_by g (strategies_at g (get_or (full_profiles g) number []))) actions choices
      (digits.choices number below) (suc k) den (grind arith) in grind arith

  pub settle_all : (i : ℕ) → i < length numbers
      → SettlesAt g (digit_actions d) terms 0 (get_or numbers i 0)
  settle_all i less =
      let number = get_or numbers i 0 in
      let below = all_at (λ number. number < length (full_profiles g)) numbers i 0 full less in
      let same : number ≡ number - 0 = omega arith in
      let settle = listed.settle g number in grind (arith, settled)
