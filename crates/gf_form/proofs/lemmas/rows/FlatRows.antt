-- Rows that are made item by item, and terms whose numbers stand one row after another. Two ranges of
-- terms while they are merged by the code, and terms that are appended in turn.
use Rattle.gf_form.proofs.Common
use Common.{IsNonDecreasingBy-push, fits_signed_from_abs, get_or-append_seam, get_or_append_left, ℕ}
use Common.{take-append_seam, take_all, drop-append_seam, mul-le-mul_right, take-append-drop, AllByRecursion, drop-append-le, ℤ}
use Common.{length-take-le, take-append-le, get_or_default, length-append, first_terms, get_or_past}
use Common.{get_or_push, length-drop, take-length, get_or-take, length-take, append-nil, map-append}
use Common.{AreOrdered, ComeAsWell, all_terms, number_at, to_z-of_z, AreChosen, AreMerged, IsFactor}
use Common.{EndsBelow, drop-cons, drop-drop, IsShaped, IsWithin, cases_lt, div_self, dvd_refl, Head}
use Common.{take-suc, AreAlike, IsNoted, IsScale, IsSumAt, IsSumOf, no_term, term_at, zero-*ℤ, List}
use Common.{add-one, lowered, Scaled, get_or, length, Chosen, HasSum, Scale, Terms, arith, rules}
use Common.{subst, Term, of_z, refl, take, to_z, w128, zero, ◌*ℤ◌, ◌++◌, ◌+ℤ◌, drop, part, []}
use Common.{map, pos, suc, sym, ◌*◌, ◌+◌, ◌<◌, ◌∙◌, ◌∷◌, ◌≡◌, ◌≤◌, ◌-◌, ap, Global, Vec}
use Rattle.std.proofs.lemmas.List.{append_assoc, get_or-drop, take_rest, take_more}
use Rattle.gf_form.specs.inner.rows.ItemRows.{HasRow}
use Rattle.std.proofs.lemmas.List.Sorted.{IsNonDecreasingBy-short}
use Rattle.gf_form.specs.inner.rows.TermLists.{CountsBelow, AreInOrder, MayCome}
use Rattle.gf_form.proofs.lemmas.rows.MergedTerms.{first_parts, both_come, same_come, take_next}
use Rattle.gf_form.proofs.lemmas.rows.MergedTerms.{IsOther, Merging, IsFree, IsOwn}

-- ---- rows that are made item by item

pub no_item : {A : Type 0} (IsAt : ℕ → A → Type 0) (old : List A) → HasRow IsAt 0 old old
no_item IsAt old = grind (arith, append-nil)

-- one more item; what is so of those before it may be weaker than it was
pub one_item : {A : Type 0} (Was IsAt : ℕ → A → Type 0) (place : ℕ) (old new after : List A) (x : A)
    → after ≡ new ++ x ∷ [] → ((k : ℕ) (y : A) → Was k y → IsAt k y) → IsAt place x
    → HasRow Was place old new → HasRow IsAt (place + 1) old after
one_item Was IsAt place old new after x is weaker here before =
    grind (arith, append_assoc, length-append, cases_lt, get_or_append_left, get_or-append_seam)

pub all_by_place : {A : Type 0} (P : A → Type 0) (xs : List A)
    → ((k : ℕ) (d : A) → k < length xs → P (get_or xs k d)) → AllByRecursion P xs
all_by_place P [] each = tt
all_by_place P (x ∷ xs) each =
    (each 0 x (omega arith), all_by_place P xs (λ k d less. each (suc k) d (omega (arith, less))))

-- a number within bounds is kept by its type
pub in_bits : (z : ℤ) → IsWithin z → to_z w128 (of_z w128 z) ≡ z
in_bits z small = to_z-of_z w128 z (fits_signed_from_abs w128 z small)

-- ---- terms whose numbers stand one row after another

-- ---- the terms by place

first_count : (t : Terms) (n : ℕ) → length (first_terms t n) ≡ n
first_count t zero = refl
first_count t (suc n) = grind (arith, length-append, first_count t n)

pub terms_count : (t : Terms) → length (all_terms t) ≡ length t.demands.items
terms_count t = first_count t (length t.demands.items)

first_there : (t : Terms) (n k : ℕ) → k < n → get_or (first_terms t n) k no_term ≡ term_at t k
first_there t zero k less = absurd (omega arith)
first_there t (suc n) k less =
    grind (arith, get_or_append_left, get_or_push, first_count, first_there t n k)

pub there : (t : Terms) (place : ℕ) → place < length t.demands.items
    → get_or (all_terms t) place no_term ≡ term_at t place
there t place within = first_there t (length t.demands.items) place within

demands_in : (t : Terms) (n : ℕ) → n ≤ length t.demands.items
    → map (λ (e : Term). e.head.demands) (first_terms t n) ≡ take n t.demands.items
demands_in t zero within = sym ((grind arith))
demands_in t (suc n) within =
    let later = demands_in t n (omega arith) in grind (arith, map-append, take-suc)

all_demands : (t : Terms) → map (λ (e : Term). e.head.demands) (all_terms t) ≡ t.demands.items
all_demands t = demands_in t (length t.demands.items) (omega arith) ∙ take-length t.demands.items

pub demands_more : (to after : Terms) (e : Term) → all_terms after ≡ all_terms to ++ e ∷ []
    → after.demands.items ≡ to.demands.items ++ e.head.demands ∷ []
demands_more to after e is = grind (arith, all_demands after, all_demands to, map-append)

-- a row is among the numbers
pub row_within : (p count place : ℕ) → place < count → place * p + p ≤ count * p
row_within p count place within = grind arith

-- ---- a term more

pub row_length : (t : Terms) (place : ℕ) → IsShaped t → place < length t.demands.items
    → length (term_at t place).row ≡ t.players
row_length t place shaped within = grind (arith, row_within, length-drop, length-take-le)

-- the term that was pushed
pub record Pushed (to after : Terms) (e : Term) : Type 0 where
  pub pushed : all_terms after ≡ all_terms to ++ e ∷ []
  pub shaped : IsShaped after

same_first : (to after : Terms) (n : ℕ) → ((k : ℕ) → k < n → term_at after k ≡ term_at to k)
    → first_terms after n ≡ first_terms to n
same_first to after zero each = refl
same_first to after (suc n) each =
    rw (each n (omega arith), same_first to after n (λ k less. each k (omega arith))) refl

-- what is left of numbers without those that were appended, and these
pub cut_at : (old row all : List ℤ) (n : ℕ) → all ≡ old ++ row → n ≡ length old
    → (take n all ≡ old) × (take (length all - n) (drop n all) ≡ row)
cut_at old row all n is at =
    grind (arith, drop-append_seam, length-append, take-append_seam, take_all)

-- the terms do not depend on the room for their numbers
pub same_terms : (t : Terms) (numbers : Vec ℤ Global) → numbers.items ≡ t.numbers.items
    → all_terms (record t { numbers = numbers }) ≡ all_terms t
same_terms t numbers same =
    same_first t (record t { numbers = numbers }) (length t.demands.items) (λ k less. rw same refl)

module _ (to after : Terms) (e : Term) (shaped : IsShaped to)
    (one_each : length e.row ≡ to.players) (players : after.players ≡ to.players)
    (noted : IsNoted to after e.head.den e.head.size)
    (demands : after.demands.items ≡ to.demands.items ++ e.head.demands ∷ [])
    (scaled : length after.scaled.items ≤ length after.demands.items)
    (is : after.numbers.items ≡ to.numbers.items ++ e.row) where
  abbrev n : ℕ
  n = length to.demands.items

  grown : length after.demands.items ≡ suc n
  grown = ap length demands ∙ length-append to.demands.items (e.head.demands ∷ []) ∙ omega arith

  same_row : (k : ℕ) → k < n → (term_at after k).row ≡ (term_at to k).row
  same_row k less = grind (arith, row_within, take-append-le, drop-append-le, length-drop)

  same_term : (k : ℕ) → k < n → term_at after k ≡ term_at to k
  same_term k less = grind (arith, same_row, noted.0 k less, get_or_append_left)

  new_term : term_at after n ≡ e
  new_term = grind (arith, drop-append_seam, take-length, noted.1, get_or-append_seam)

  pub is_pushed : Pushed to after e
  is_pushed = search (rules, grown, same_first, same_term, new_term, length-append)

-- ---- two terms over one denominator

pub same_scale : (a b : Head) (size : ℕ) → a.den ≡ b.den → 0 < a.den → size ≡ a.size + b.size
    → IsScale a b (record { den = a.den; size = size; first = 1; second = 1 })
same_scale a b size same above is =
    let factor : IsFactor a.den a.den 1 =
    record { above = above; divides = dvd_refl a.den; factor_is = sym (div_self above) } in
    record {
      first = factor;
      second = subst (λ (n : ℕ). IsFactor n a.den 1) same factor;
      size = omega (arith, is);
    }

-- two of which nothing is noted
plain_head : (t : Terms) (place : ℕ) → place < length t.demands.items → length t.scaled.items ≡ 0
    → (term_at t place).head
    ≡ record { demands = get_or t.demands.items place 0; den = t.den; size = 0 }
plain_head t place within none = grind (arith, get_or_past)

pub plain_scale : (t : Terms) (first second : ℕ) → first < length t.demands.items
    → second < length t.demands.items → length t.scaled.items ≡ 0 → 0 < t.den
    → IsScale (term_at t first).head (term_at t second).head
    (record { den = t.den; size = 0; first = 1; second = 1 })
plain_scale t first second one other none above = search (rules, plain_head, same_scale)

-- ---- rows of sums

no_sum : (x y : ℤ) → pos 0 *ℤ x +ℤ pos 0 *ℤ y ≡ pos 0
no_sum x y = λ i. zero-*ℤ x i +ℤ zero-*ℤ y i

-- the sum of two terms
pub sum_made : (a b : Term) (s : Scale) (demands den : ℕ) (old new : List ℤ)
    → length a.row ≡ length b.row
    → (more : HasRow (IsSumAt a.row b.row s den) (length a.row) old new)
    → (0 < s.den → IsScale a.head b.head s) → (0 < den → den ≡ s.den) → 0 < den → IsSumOf a b
    (record { head = record { demands = demands; den = den; size = s.size }; row = more.row })
sum_made a b s demands den old new same more is known above =
    let scale = is (omega (arith, known above, above)) in
    let told = numbers scale in
    subst (λ (n : ℕ). IsSumOf a b (record {
      head = record { demands = demands; den = n; size = s.size };
      row = more.row;
    }))
    (sym (known above)) (grind arith)
  where
    numbers : IsScale a.head b.head s → (k : ℕ) → get_or (pos s.size ∷ more.row) k (pos 0)
        ≡ number_at k a *ℤ pos s.first +ℤ number_at k b *ℤ pos s.second
    numbers scale zero = ap pos scale.size
    numbers scale (suc k) =
        let out = more.one_each in grind (arith, get_or_past, no_sum, more.each k (pos 0))

-- ---- what notes write out

-- what is so for the next anyway
pub default_noted : (d : Scaled) (ss : List Scaled) (k : ℕ)
    → get_or (ss ++ d ∷ []) k d ≡ get_or ss k d
default_noted d (s ∷ ss) (suc k) = default_noted d ss k
default_noted d ss k = grind arith

pub ruleset noted = (default_noted, get_or_append_left, get_or-append_seam, get_or_past)

-- ---- ranges of a list

pub part_next : (es : List Term) (i end : ℕ) → i < end → end ≤ length es
    → part i end es ≡ get_or es i no_term ∷ part (i + 1) end es
part_next es i end less within = grind (arith, add-one, drop-cons)

pub part_past : (es : List Term) (i end : ℕ) → end ≤ i → part i end es ≡ []
part_past es i end past = grind arith

-- all of a range, by the places of all
pub all_in : {A : Type 0} (P : A → Type 0) (d : A) (xs : List A) (n i : ℕ) → i + n ≤ length xs
    → ((k : ℕ) → i ≤ k → k < i + n → P (get_or xs k d)) → AllByRecursion P (take n (drop i xs))
all_in P d xs n i within each = all_by_place P (take n (drop i xs)) (λ k e less.
    subst P (grind (arith, get_or-take, get_or-drop, get_or_default, length-take-le, length-drop))
    (each (i + k) (omega arith) (omega (arith, less, length-take n (drop i xs)))))

pub cut : (es : List Term) (i j : ℕ) → i ≤ j → drop i es ≡ part i j es ++ drop j es
cut es i j le =
    let on : i + (j - i) ≡ j = omega arith in
    cc (take-append-drop (j - i) (drop i es), drop-drop (j - i) i es)

-- ---- the ranges by demands

before_it : (demands : List ℕ) (low high m n : ℕ) → low ≤ high → CountsBelow demands low m
    → CountsBelow demands high n → ¬ (n < m)
before_it demands low high m n le first second less = grind arith

pub demands_read : (t : Terms) (place d : ℕ) → place < length t.demands.items
    → d ≡ get_or t.demands.items place d → d ≡ (term_at t place).head.demands
demands_read t place d within is = grind (arith, get_or_default)

-- all of the terms from one place up to another, by their places
pub range : (P : Term → Type 0) (from : Terms) (i j : ℕ) → i ≤ j → j ≤ length from.demands.items
    → ((k : ℕ) → i ≤ k → k < j → P (term_at from k)) → AllByRecursion P (part i j (all_terms from))
range P from i j le within each =
    all_in P no_term (all_terms from) (j - i) i (omega (arith, within, le, terms_count from))
    (λ k at less. subst P (sym (there from k (omega (arith, less, le, within))))
    (each k at (omega (arith, less, le))))

module _ (from : Terms) (step action : ℕ) (some : 1 ≤ action) (chosen : Chosen)
    (are : AreChosen from.demands.items step action chosen) where
  abbrev es : List Term
  es = all_terms from

  least : 1 * step ≤ action * step
  least = mul-le-mul_right step some

  free_le : chosen.free ≤ chosen.start
  free_le = grind (arith, before_it, least)

  start_le : chosen.start ≤ chosen.end
  start_le = grind arith

  -- what is left of them
  pub chosen_parts : AreMerged step action es (map (lowered 0) (part 0 chosen.free es)
      ++ map (lowered (action * step)) (part chosen.start chosen.end es))
  chosen_parts =
      first_parts step action es (part 0 chosen.free es) (part chosen.free chosen.start es)
      (part chosen.start chosen.end es) (drop chosen.end es) some (cc (
        cut es 0 chosen.free (omega arith),
        cut es chosen.free chosen.start free_le,
        cut es chosen.start chosen.end start_le,
      ))
      (range (IsFree step) from 0 chosen.free (omega arith) are.free.bound
      (λ k at. are.free.below k))
      (range (IsOther step action) from chosen.free chosen.start free_le are.start.bound
      (λ k at less. grind (arith, free_le)))
      (range (IsOwn step action) from chosen.start chosen.end start_le are.end.bound
      (λ k at less. grind (arith, start_le)))
      (subst (AllByRecursion (IsOther step action)) (take_rest es chosen.end)
      (range (IsOther step action) from chosen.end (length es)
      (omega (arith, terms_count from, are.end.bound)) (omega (arith, terms_count from))
      (λ k at less. grind (arith, free_le, start_le, terms_count))))

-- ---- a list that grows

pub none_ordered : (t : Terms) → all_terms t ≡ [] → AreOrdered t
    × ((n : ℕ) → EndsBelow t.demands.items n)
none_ordered t none = grind (arith, terms_count, IsNonDecreasingBy-short)

module _ (to after : Terms) (e : Term) (is : all_terms after ≡ all_terms to ++ e ∷ []) where
  pub below_more : (n : ℕ) → e.head.demands ≤ n → EndsBelow after.demands.items n
  below_more n le d some =
      let grown = demands_more to after e is in
      let size = ap length grown ∙ length-append to.demands.items (e.head.demands ∷ []) in
      let last : length after.demands.items - 1 ≡ length to.demands.items = omega (arith, size) in
      grind (arith, get_or-append_seam)

  pub ordered_more : AreOrdered to → EndsBelow to.demands.items e.head.demands → AreOrdered after
  ordered_more ordered below =
      rw (demands_more to after e is)
      (IsNonDecreasingBy-push (λ (d : ℕ). d) to.demands.items e.head.demands ordered below)

  pub waits : {from : Terms} {less next end : ℕ} → MayCome from to less next end
      → (next < end → e.head.demands ≤ (term_at from next).head.demands - less)
      → MayCome from after less next end
  waits {from} {less} {next} may le = grind (arith, below_more, least)

pub lowered_none : (e : Term) → lowered 0 e ≡ e
lowered_none e = grind arith

-- the first of these came, or is left out
pub skips : {from to : Terms} {less next end : ℕ} → AreOrdered from → MayCome from to less next end
    → next < end → MayCome from to less (next + 1) end
skips {from} {to} {less} {next} sorted may here = grind (arith, least)

-- ---- while they are merged

pub record Merges (from : Terms) (step action lowest free_end own_end : ℕ) (free own : ℕ)
    (to : Terms) : Type 0 where
  pub merging : Merging step action (all_terms from) (all_terms to)
      (map (lowered 0) (part free free_end (all_terms from)))
      (map (lowered lowest) (part own own_end (all_terms from)))
  pub alike : AreAlike to from
  pub order : AreInOrder to
  pub frees : MayCome from to 0 free free_end
  pub owns : MayCome from to lowest own own_end

pub first_merge : (from : Terms) (step action : ℕ) (chosen : Chosen) → 1 ≤ action
    → AreChosen from.demands.items step action chosen → (to : Terms) → all_terms to ≡ []
    → IsShaped to → AreAlike to from
    → Merges from step action (action * step) chosen.free chosen.end 0 chosen.start to
first_merge from step action chosen some are to none shaped alike =
    let empty = none_ordered to none in record {
      merging = rw none (chosen_parts from step action some chosen are);
      alike = alike;
      order = (shaped, empty.0);
      frees = grind arith;
      owns = grind arith;
    }

module _ {from : Terms} {step action lowest free_end own_end free own : ℕ} {to after : Terms}
    (sorted : AreOrdered from)
    (before : Merges from step action lowest free_end own_end free own to)
    (alike : AreAlike after to) (shaped : IsShaped after) where
  abbrev left : ℕ → ℕ → ℕ → List Term
  left less i end = map (lowered less) (part i end (all_terms from))

  first_left : {less next end : ℕ} → MayCome from to less next end → next < end
      → left less next end ≡ lowered less (term_at from next) ∷ left less (next + 1) end
  first_left may more = grind (arith, part_next, terms_count, there)

  -- one more term, made of those that come first, and the places of those that are next
  one_more : {next_free next_own : ℕ} (e : Term) (xs ys : List Term)
      → all_terms after ≡ all_terms to ++ e ∷ []
      → left 0 free free_end ≡ xs ++ left 0 next_free free_end
      → left lowest own own_end ≡ ys ++ left lowest next_own own_end
      → ComeAsWell (xs ++ ys) (e ∷ []) → EndsBelow to.demands.items e.head.demands
      → MayCome from after 0 next_free free_end → MayCome from after lowest next_own own_end
      → Merges from step action lowest free_end own_end next_free next_own after
  one_more e xs ys is first second come ends frees owns = record {
    merging = rw is (take_next step action (all_terms from) (all_terms to) _ _ xs ys e come
        (rw (first, second) at before.merging));
    alike = (alike.0 ∙ before.alike.0, alike.1 ∙ before.alike.1);
    order = (shaped, ordered_more to after e is before.order.1 ends);
    frees = frees;
    owns = owns;
  }

  pub free_goes : free < free_end → (own < own_end
      → (term_at from free).head.demands ≤ (term_at from own).head.demands - lowest)
      → all_terms after ≡ all_terms to ++ lowered 0 (term_at from free) ∷ []
      → Merges from step action lowest free_end own_end (free + 1) own after
  free_goes less first is =
      let t = lowered 0 (term_at from free) in
      one_more t (t ∷ []) [] is (first_left before.frees less) refl (same_come (t ∷ []))
      (before.frees.rises less)
      (skips sorted (waits to after t is before.frees (λ _. omega arith)) less)
      (waits to after t is before.owns (λ more. omega (arith, first more)))

  pub own_goes : own < own_end → (free < free_end
      → (term_at from own).head.demands - lowest ≤ (term_at from free).head.demands)
      → all_terms after ≡ all_terms to ++ lowered lowest (term_at from own) ∷ []
      → Merges from step action lowest free_end own_end free (own + 1) after
  own_goes less first is =
      let t = lowered lowest (term_at from own) in
      one_more t [] (t ∷ []) is refl (first_left before.owns less) (same_come (t ∷ []))
      (before.owns.rises less)
      (waits to after t is before.frees (λ more. omega (arith, first more)))
      (skips sorted (waits to after t is before.owns (λ _. omega arith)) less)

  pub both_go : free < free_end → own < own_end
      → (term_at from free).head.demands ≡ (term_at from own).head.demands - lowest
      → HasSum (term_at from free) (term_at from own) (all_terms to) (all_terms after)
      → Merges from step action lowest free_end own_end (free + 1) (own + 1) after
  both_go free_less own_less same has =
      let t = lowered 0 (term_at from free) in
      let u = lowered lowest (term_at from own) in
      let sum = has.sum in
      let first : sum.head.demands ≡ t.head.demands = omega (arith, has.demands) in
      let second : sum.head.demands ≡ u.head.demands = omega (arith, has.demands, same) in
      one_more sum (t ∷ []) (u ∷ []) has.is (first_left before.frees free_less)
      (first_left before.owns own_less)
      (λ den steps choices exact. both_come den steps choices t u sum first second
      (λ above. let s = has.adds above in grind arith) exact.0)
      (rw first (before.frees.rises free_less))
      (skips sorted (waits to after sum has.is before.frees (λ _. omega (arith, first))) free_less)
      (skips sorted (waits to after sum has.is before.owns (λ _. omega (arith, second))) own_less)

-- when one of the two ranges is left
module _ {from : Terms} {step action lowest free_end own_end free own : ℕ} {to : Terms}
    (after : Terms) (done : Merges from step action lowest free_end own_end free own to) where
  pub frees_left : own_end ≤ own → all_terms after
      ≡ all_terms to ++ map (lowered 0) (part free free_end (all_terms from))
      → AreMerged step action (all_terms from) (all_terms after)
  frees_left past is =
      rw (part_past (all_terms from) own own_end past, append-nil, sym is) at done.merging

  pub owns_left : free_end ≤ free → all_terms after
      ≡ all_terms to ++ map (lowered lowest) (part own own_end (all_terms from))
      → AreMerged step action (all_terms from) (all_terms after)
  owns_left past is = rw (part_past (all_terms from) free free_end past, sym is) at done.merging

-- ---- terms of a list that are appended to another one in turn

-- these were appended, each changed by this
pub record Pushing (f : Term → Term) (done : List Term) (old to : Terms) : Type 0 where
  pub is : all_terms to ≡ all_terms old ++ map f done
  pub alike : AreAlike to old
  pub order : AreInOrder to

pub more_pushing : (f : Term → Term) (done next : List Term) (e : Term) (old to after : Terms)
    → next ≡ done ++ e ∷ [] → Pushing f done old to → all_terms after ≡ all_terms to ++ f e ∷ []
    → AreAlike after to → IsShaped after → EndsBelow to.demands.items (f e).head.demands
    → Pushing f next old after
more_pushing f done next e old to after next_is before is alike shaped ends = record {
  is = grind (arith, map-append, append_assoc);
  alike = (alike.0 ∙ before.alike.0, alike.1 ∙ before.alike.1);
  order = (shaped, ordered_more to after (f e) is before.order.1 ends);
}

pub part_more : (from : Terms) (start i : ℕ) → start ≤ i → i < length from.demands.items
    → part start (i + 1) (all_terms from)
    ≡ part start i (all_terms from) ++ term_at from i ∷ []
part_more from start i le less =
    let es = all_terms from in
    let next : i + 1 - start ≡ i - start + 1 = omega (arith, le) in
    let on : start + (i - start) ≡ i = omega (arith, le) in
    let within : i - start < length (drop start es) =
    omega (arith, length-drop start es, le, less, terms_count from) in
    cc (
      next,
      on,
      take_more (drop start es) (i - start) no_term within,
      get_or-drop start es (i - start) no_term,
      there from i less,
    )
