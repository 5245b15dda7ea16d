-- The strategy with a number: one action after another, each by what is left of the number. The
-- labels of strategies differ, and those of all sets are joined from those of some and of the
-- others.
use Rattle.gf_form.proofs.Common
use Common.{mul-div_cancel_left, All-from_recursion, decimal_injective, decimal_by_steps, drop-cons}
use Common.{slice_get-get_or, AllByRecursion, join_with_byte, strategy_label, if◌then◌else◌, Option}
use Common.{reduced_label, slice_get-map, append_assoc, all_choices, choice_text, All-get_or, arith}
use Common.{all_weaker, length-map, map-append, map_twice, mul_assoc, nat_tests, slice_get, IsPlain}
use Common.{all_both, take-suc, add-one, decimal, decimal_digit, product, get_or, length, mod-lt, false, shown, []}
use Common.{subst, Bool, List, None, Some, drop, refl, take, true, zero, ◌++◌, ◌==◌, map, suc, sym}
use Common.{◌%◌, ◌*◌, ◌+◌, ◌/◌, ◌<◌, ◌^◌, ◌∙◌, ◌∷◌, ◌≡◌, ◌≤◌, ap, ℕ}
use Rattle.gf_token.specs.LabelSpelling.{is_spelling_after, IsLabel}
use Rattle.gf_form.proofs.lemmas.strategies.Chosen.{length-all_choices, choices_distinct, IsChoice}
use Rattle.gf_form.proofs.lemmas.strategies.Chosen.{at_its_place, choice_there, every_choice, long}
use Rattle.gf_form.proofs.lemmas.strategies.Chosen.{place}
use Rattle.gf_form.proofs.lemmas.rows.Digits.{product_joined}
use Rattle.gf_form.proofs.lemmas.strategies.CountedActions.{take_past}
pub use Rattle.gf_form.proofs.lemmas.strategies.Chosen.{positive_parts, choices_next, choices_row}

pub all_at : {A : Type 0} (P : A → Type 0) (xs : List A) (i : ℕ) (d : A) → AllByRecursion P xs
    → i < length xs → P (get_or xs i d)
all_at P xs i d h less = All-get_or P xs i d less (All-from_recursion P xs h)

-- ---- sets that come after others

both_choices : (xs ys f b : List ℕ) → IsChoice xs f → IsChoice ys b → IsChoice (xs ++ ys) (f ++ b)
    × (place (xs ++ ys) (f ++ b) ≡ place xs f * product ys + place ys b)
both_choices (c ∷ xs) ys (a ∷ f) b hf hb =
    grind (arith, product_joined, mul_assoc, place, both_choices xs ys f b hf.1 hb)
both_choices [] ys [] b hf hb = (hb, omega arith)
both_choices xs ys f b hf hb = absurd (grind arith)

-- the strategy with this number
pub joined_at : (xs ys : List ℕ) (i j : ℕ) → i < product xs → j < product ys
    → (i * product ys + j < product (xs ++ ys))
    × (get_or (all_choices (xs ++ ys)) (i * product ys + j) []
    ≡ get_or (all_choices xs) i [] ++ get_or (all_choices ys) j [])
joined_at xs ys i j hi hj =
    let f = choice_there xs i hi in
    let b = choice_there ys j hj in
    let both = both_choices xs ys _ _ f.0 b.0 in
    grind (arith, at_its_place)

-- ---- one action after another

-- what is written, and what is left to be
pub record Goes (counts : List ℕ) (number i stride rest : ℕ) (strategy : List ℕ) : Type 0 where
  pub stride_is : stride ≡ product (drop i counts)
  pub below : rest < stride
  pub choice : strategy ++ get_or (all_choices (drop i counts)) rest []
      ≡ get_or (all_choices counts) number []

pub goes_on : (counts : List ℕ) (number i stride rest count : ℕ) (strategy : List ℕ)
    → Goes counts number i stride rest strategy → i < length counts
    → count ≡ get_or counts i 0 → Goes counts number (i + 1) (stride / count)
    (rest % (stride / count)) (strategy ++ (rest / (stride / count) + 1) ∷ [])
goes_on counts number i stride rest count strategy h less is =
    let others = drop (suc i) counts in
    let next = drop-cons counts i 0 less ∙ ap (λ (c : ℕ). c ∷ others) (sym is) in
    let whole : stride ≡ count * product others = h.stride_is ∙ ap product next in
    let below : rest < count * product others = subst (λ (n : ℕ). rest < n) whole h.below in
    let parts = positive_parts count (product others) rest below in
    grind (arith, add-one, mod-lt, append_assoc, choices_next, mul-div_cancel_left)

-- ---- labels

-- the choice at a place
abbrev pub choice_in : List Bool → List ℕ → ℕ → Option ℕ
choice_in flags s i = if get_or flags i false then Some (get_or s i 0) else None

-- one choice more
pub label_more : (flags : List Bool) (s : List ℕ) (i : ℕ) → i < length s
    → length flags ≡ length s → 0 < i → reduced_label (take (i + 1) (shown flags s))
    ≡ (reduced_label (take i (shown flags s)) ++ 45 ∷ []) ++ choice_text (choice_in flags s i)
label_more (f ∷ flags) (a ∷ s) (suc (suc i)) less same some =
    let before = label_more flags s (suc i) (omega (arith, less)) (omega (arith, same)) in
    grind (arith, append_assoc, before)
label_more (f ∷ g ∷ flags) (a ∷ b ∷ s) (suc zero) less same some = grind (arith, append_assoc)
label_more flags s i less same some = absurd (grind arith)

pub first_label : (flags : List Bool) (s : List ℕ) (i : ℕ) → i < length s → length flags ≡ length s
    → i ≡ 0 → reduced_label (take (i + 1) (shown flags s)) ≡ choice_text (choice_in flags s i)
first_label (f ∷ flags) (a ∷ s) zero less same none = refl
first_label flags s i less same none = absurd (grind arith)

pub length-shown : (flags : List Bool) (s : List ℕ) → length (shown flags s) ≤ length s
length-shown (f ∷ flags) (a ∷ s) = omega (arith, length-shown flags s)
length-shown flags s = grind arith

-- with all choices it is the label of the strategy
all_shown : (flags : List Bool) (s : List ℕ) → length flags ≡ length s
    → ((k : ℕ) → k < length s → get_or flags k false ≡ true) → shown flags s ≡ map Some s
all_shown (f ∷ flags) (a ∷ s) same all =
    let others =
    all_shown flags s (omega (arith, same)) (λ k less. all (suc k) (omega (arith, less))) in
    grind (arith, all 0, others)
all_shown [] [] same all = refl
all_shown flags s same all = grind arith

pub whole_label : (flags : List Bool) (s : List ℕ) → length flags ≡ length s
    → ((k : ℕ) → k < length s → get_or flags k false ≡ true)
    → reduced_label (shown flags s) ≡ strategy_label s
whole_label flags s same all = grind (arith, all_shown, map_twice)

-- ---- the labels so far

pub one_label_more : (counts : List ℕ)
    (labels next : List (List ℕ)) (number : ℕ) (label strategy : List ℕ) → number < product counts
    → strategy ≡ get_or (all_choices counts) number [] → label ≡ strategy_label strategy
    → labels ≡ map strategy_label (take number (all_choices counts)) → next ≡ labels ++ label ∷ []
    → next ≡ map strategy_label (take (number + 1) (all_choices counts))
one_label_more counts labels next number label strategy less is label_is labels_are next_is =
    let all = all_choices counts in
    let taken = take-suc all number [] (omega (arith, less, length-all_choices counts)) in
    grind (arith, all, taken, add-one, map-append)

-- ---- spellings

abbrev IsDigit : ℕ → Type 0
IsDigit b = (48 ≤ b) × (b < 58)

pub digits_of : (n : ℕ) → n < 2 ^ 64 → AllByRecursion IsDigit (decimal n)
digits_of n h =
    decimal_by_steps (λ _ ds. AllByRecursion IsDigit ds) (λ k few. (omega (arith, few), tt))
    (λ k ds _ p. all_both IsDigit ds ((48 + k % 10) ∷ []) p (omega (arith, mod-lt), tt)) n h

pub plain_number : (n : ℕ) → n < 2 ^ 32 → AllByRecursion IsPlain (decimal n)
plain_number n h = grind (arith, all_weaker, nat_tests, digits_of)

plain_after : (before : ℕ) (bytes : List ℕ) → (before == 92) ≡ false
    → AllByRecursion IsPlain bytes → is_spelling_after before bytes ≡ true
plain_after before [] e h = rw e refl
plain_after before (b ∷ bytes) e h = grind (arith, plain_after b bytes h.0.1 h.1)

pub plain_label : (bytes : List ℕ) → AllByRecursion IsPlain bytes → IsLabel bytes
plain_label bytes h = plain_after 34 bytes refl h

-- ---- what the steps of the code need

pub ruleset choice_steps = (all_both, plain_number, decimal_digit)

pub ruleset text_steps = (label_more, first_label, length-shown, all_both, take_past, plain_label)

pub ruleset label_steps = (one_label_more, length-all_choices, take_past, whole_label, long)

-- ---- labels differ

-- none of these bytes is a dash
abbrev pub AreUndashed : List ℕ → Type 0
AreUndashed bytes = AllByRecursion (λ b. ¬ (b ≡ 45)) bytes

pub undashed_number : (n : ℕ) → n < 2 ^ 64 → AreUndashed (decimal n)
undashed_number n h = grind (arith, all_weaker, digits_of)

-- what stands before the first dash, and after it
cut : (xs ys us vs : List ℕ) → AreUndashed xs → AreUndashed ys → xs ++ 45 ∷ us ≡ ys ++ 45 ∷ vs
    → (xs ≡ ys) × (us ≡ vs)
cut (x ∷ xs) (y ∷ ys) us vs hx hy e = grind (arith, cut xs ys us vs hx.1 hy.1 (ap (drop 1) e))
cut [] [] us vs hx hy e = (refl, ap (drop 1) e)
cut xs ys us vs hx hy e = absurd (grind arith)

-- items that are told from their texts are told from these joined
module _ {X : Type 0} (text : X → List ℕ) (IsFine : X → Type 0)
    (undashed : (x : X) → IsFine x → AreUndashed (text x))
    (one : (x y : X) → IsFine x → IsFine y → text x ≡ text y → x ≡ y) where
  pub same_joined : (xs ys : List X) → length xs ≡ length ys → AllByRecursion IsFine xs
      → AllByRecursion IsFine ys
      → join_with_byte 45 (map text xs) ≡ join_with_byte 45 (map text ys) → xs ≡ ys
  same_joined (x ∷ u ∷ xs) (y ∷ v ∷ ys) n hx hy e =
      let parts = cut (text x) (text y) (join_with_byte 45 (map text (u ∷ xs)))
      (join_with_byte 45 (map text (v ∷ ys))) (undashed x hx.0) (undashed y hy.0) e in
      let others = same_joined (u ∷ xs) (v ∷ ys) (omega (arith, n)) hx.1 hy.1 parts.1 in
      λ i. one x y hx.0 hy.0 parts.0 i ∷ others i
  same_joined (x ∷ []) (y ∷ []) n hx hy e = λ i. one x y hx.0 hy.0 e i ∷ []
  same_joined [] [] n hx hy e = refl
  same_joined xs ys n hx hy e = absurd (omega (arith, n))

abbrev pub AreSmall : List ℕ → Type 0
AreSmall ns = AllByRecursion (λ n. n < 2 ^ 64) ns

pub small_choice : (counts choice : List ℕ) → AreSmall counts → IsChoice counts choice
    → AreSmall choice × (length choice ≡ length counts)
small_choice (n ∷ counts) (a ∷ choice) small h =
    grind (arith, small_choice counts choice small.1 h.1)
small_choice [] [] small h = (tt, refl)
small_choice counts choice small h = absurd (grind arith)

pub labels_differ : (counts : List ℕ) (i j : ℕ) → AreSmall counts → i < length (all_choices counts)
    → j < length (all_choices counts) → strategy_label (get_or (all_choices counts) i [])
    ≡ strategy_label (get_or (all_choices counts) j []) → i ≡ j
labels_differ counts i j small hi hj e =
    let at = λ (k : ℕ) (less : k < length (all_choices counts)). small_choice counts _ small
    (choice_there counts k (rw length-all_choices at less)).0 in
    let t = at j hj in
    grind (arith, choices_distinct, same_joined, undashed_number, decimal_injective)

-- ---- texts

label_of_both : (f b : List ℕ) → 0 < length f → 0 < length b
    → strategy_label (f ++ b) ≡ strategy_label f ++ 45 ∷ strategy_label b
label_of_both (a ∷ e ∷ f) (c ∷ b) hf hb =
    grind (arith, append_assoc, label_of_both (e ∷ f) (c ∷ b) (omega arith) hb)
label_of_both (a ∷ []) (c ∷ b) hf hb = refl
label_of_both f b hf hb = absurd (grind arith)

-- labels of strategies, made from this many first ones with all others, and from one more with this
-- many
pub record AreJoined (firsts others labels : List (List ℕ)) (i j : ℕ) : Type 0 where
  pub are : (xs ys : List ℕ) → 0 < length xs → 0 < length ys
      → firsts ≡ map strategy_label (all_choices xs) → others ≡ map strategy_label (all_choices ys)
      → labels ≡ map strategy_label (take (i * product ys + j) (all_choices (xs ++ ys)))

counted : (labels : List (List ℕ)) (counts : List ℕ)
    → labels ≡ map strategy_label (all_choices counts) → length labels ≡ product counts
counted labels counts is = grind (arith, is, length-map, length-all_choices)

pub one_joined_more : (firsts others labels next : List (List ℕ)) (i j : ℕ)
    (first other label : List ℕ) → i < length firsts → j < length others
    → slice_get firsts i ≡ Some first → slice_get others j ≡ Some other
    → label ≡ first ++ 45 ∷ other → next ≡ labels ++ label ∷ []
    → AreJoined firsts others labels i j → AreJoined firsts others next i (j + 1)
one_joined_more firsts others labels next i j first other label hi hj at_i at_j is more h =
    grind (
      arith,
      counted,
      slice_get-map,
      slice_get-get_or,
      length-all_choices,
      joined_at,
      label_of_both,
      long,
      one_label_more,
    )

pub row_joined : (firsts others labels : List (List ℕ)) (i j : ℕ) → j ≡ length others
    → AreJoined firsts others labels i j → AreJoined firsts others labels (i + 1) 0
row_joined firsts others labels i j end h = grind (arith, counted)

pub all_joined : (firsts others labels : List (List ℕ)) (i : ℕ) → i ≡ length firsts
    → AreJoined firsts others labels i 0 → (xs ys : List ℕ) → 0 < length xs → 0 < length ys
    → firsts ≡ map strategy_label (all_choices xs) → others ≡ map strategy_label (all_choices ys)
    → labels ≡ map strategy_label (all_choices (xs ++ ys))
all_joined firsts others labels i end h xs ys hx hy f o =
    grind (arith, counted, product_joined, take_past, length-all_choices)

pub ruleset joined_steps = (one_joined_more, row_joined, all_joined)

pub ruleset each_strategy = (every_choice, length-all_choices, choices_distinct, labels_differ)
