-- What makes a table a form of a game: its labels, and rows of payoffs that are right at its
-- profiles.
use Rattle.gf_form.proofs.Common
use Common.{length-numbers_from, append_cancel_left, slice_get-get_or, take-append_seam, ArePayoffs}
use Common.{IsStrategicForm, all_zipped_more, flat_map-append, length-profiles, strategy_labels, []}
use Common.{AllByRecursion, IsFirstWithout, PaysFractions, full_profiles, length-append, IsFormWith}
use Common.{profile_limit, strategies_at, ArePayoffsAt, PaysFraction, one_fraction, AllZip-long, ap}
use Common.{IfOk-weaker, all_of_each, at_position, mapped_from, IsFraction, all_images, all_joined}
use Common.{append-nil, choices_by, length-map, players_of, AreRowsAt, IsTableOf, map_twice, AllZip}
use Common.{slice_get, take_more, Contains, all_both, contains, flat_map, profiles, take-suc, Entry}
use Common.{IsEqual, IsTable, add-one, has_map, product, suc-mul, IsGame, SetKey, get_or, length, ℕ}
use Common.{payoff, Ratio, Table, arith, subst, Game, List, Some, drop, each, refl, rows, take, Has}
use Common.{zero, ◌++◌, has, inl, inr, map, suc, sym, ◌*◌, ◌+◌, ◌<◌, ◌↔◌, ◌∙◌, ◌∷◌, ◌≡◌, ◌≤◌}
use Rattle.gf_form.proofs.lemmas.strategies.CountedActions.{as_many_players, some_strategy}
use Rattle.gf_form.proofs.lemmas.strategies.Chosen.{all_mapped, all_right}
use Rattle.gf_form.specs.inner.rows.FitsTable.{FitsTable}

pub as_many : {A B : Type 0} (R : A → B → Type 0) (xs : List A) (ys : List B) → AllZip R xs ys
    → length xs ≡ length ys
as_many R xs ys h = sym (AllZip-long R xs ys h)

-- ---- forms by any labels

-- the profiles of a form by these labels
abbrev pub form_profiles : (ℕ → List (List ℕ)) → Game → List (List ℕ)
form_profiles labels g = profiles (map length (map labels (players_of g)))

same_entries : (R : List ℕ → List Ratio → Type 0) (es fs : List Entry)
    → map (λ e. e.profile) es ≡ map (λ e. e.profile) fs
    → ((profile : List ℕ) → Has (map (λ e. e.profile) es) profile → (a b : List Ratio) → R profile a
    → R profile b → a ≡ b)
    → AllByRecursion (λ e. R e.profile e.payoffs) es
    → AllByRecursion (λ e. R e.profile e.payoffs) fs → es ≡ fs
same_entries R (e ∷ es) (f ∷ fs) q one h k =
    let first = one e.profile (inl refl) e.payoffs f.payoffs h.0 in
    grind (arith, first, same_entries R es fs (ap (drop 1) q) (λ p i. one p (inr i)) h.1 k.1)
same_entries R [] [] q one h k = refl
same_entries R es fs q one h k = absurd (grind arith)

some_entries : (R : List ℕ → List Ratio → Type 0) (ps : List (List ℕ))
    → ((p : List ℕ) → Has ps p → (row : List Ratio) × R p row) → (es : List Entry)
    × (map (λ e. e.profile) es ≡ ps) × AllByRecursion (λ e. R e.profile e.payoffs) es
some_entries R [] rows = ([], refl, tt)
some_entries R (p ∷ ps) rows =
    let row = rows p (inl refl) in
    let others = some_entries R ps (λ q i. rows q (inr i)) in (
      record { profile = p; payoffs = row.0 } ∷ others.0,
      ap (λ qs. p ∷ qs) others.1,
      (row.1, others.2),
    )

module _ (labels : ℕ → List (List ℕ)) (R : List ℕ → List Ratio → Type 0) (g : Game)
    (ps : List (List ℕ)) (are : form_profiles labels g ≡ ps) where
  -- if at most one row of payoffs is right at each profile, there is at most one form
  pub one_form_by : ((p : List ℕ) → Contains ps p → (a b : List Ratio) → R p a → R p b → a ≡ b)
      → (t u : Table) → IsFormWith labels R g t → IsFormWith labels R g u → t ≡ u
  one_form_by one t u h k = grind (arith, same_entries, contains)

  -- a form exists exactly when there are right payoffs at each profile
  pub some_form_by : ((p : List ℕ) → Contains ps p → (row : List Ratio) × R p row)
      → (t : Table) × IsFormWith labels R g t
  some_form_by rows =
      let es = some_entries R ps (λ p i. rows p (contains ps p i)) in (
        record {
          title = g.title;
          comment = g.comment;
          players = g.players;
          strategies = map labels (players_of g);
          entries = es.0;
        },
        grind arith,
      )

  pub rows_of_form : (t : Table) → IsFormWith labels R g t → (p : List ℕ) → Contains ps p
      → (row : List Ratio) × R p row
  rows_of_form t form p i =
      let there = has ps p i in grind (arith, there, mapped_from, each, length-map, map_twice)

  -- a form is a table if each player has a strategy, and rows that are right a payoff for each
  pub table_by : ((player : ℕ) → 0 < length (labels player))
      → ((p : List ℕ) (row : List Ratio) → Contains ps p → R p row
      → length row ≡ length (players_of g))
      → (t : Table) → IsFormWith labels R g t → IsTable t
  table_by some each_row t form =
      let lists = all_mapped (λ own. 0 < length own) labels (players_of g) some in
      let right = λ (e : Entry) (i : Has t.entries e). each_row e.profile e.payoffs
      (grind (arith, contains, has_map (λ (d : Entry). d.profile) t.entries e i))
      (each (λ (d : Entry). R d.profile d.payoffs) t.entries e form.payoffs i) in
      let all : length (players_of g) ≡ length t.players =
      length-numbers_from 1 (length g.players) ∙ sym (ap length form.players) in
      grind (arith, length-map, lists, all_images, all_of_each, right, all)

-- ---- rows of payoffs

pub one_row : (g : Game) (choices : SetKey → ℕ) (row others : List Ratio) (players : List ℕ)
    → AllZip (λ paid player. IsFraction paid × IsEqual paid (payoff g choices player)) row players
    → AllZip (λ paid player. IsFraction paid × IsEqual paid (payoff g choices player))
    others players
    → row ≡ others
one_row g choices (a ∷ row) (b ∷ others) (player ∷ players) h k =
    grind (arith, one_fraction, one_row g choices row others players h.1 k.1)
one_row g choices [] [] [] h k = refl
one_row g choices row others players h k = absurd (grind arith)

pub row_of : (g : Game) (choices : SetKey → ℕ) (players : List ℕ)
    → AllByRecursion (PaysFraction g choices) players → (row : List Ratio)
    × AllZip (λ paid player. IsFraction paid × IsEqual paid (payoff g choices player)) row players
row_of g choices [] h = ([], tt)
row_of g choices (player ∷ players) h =
    let others = row_of g choices players h.1 in (h.0.0 ∷ others.0, ((h.0.1, h.0.2), others.1))

pub of_row : (g : Game) (choices : SetKey → ℕ) (row : List Ratio) (players : List ℕ)
    → AllZip (λ paid player. IsFraction paid × IsEqual paid (payoff g choices player)) row players
    → AllByRecursion (PaysFraction g choices) players
of_row g choices (paid ∷ row) (player ∷ players) h = grind (arith, of_row g choices row players h.1)
of_row g choices row players h = grind arith

-- ---- the strategic form

pub all_profiles : (g : Game) → form_profiles (strategy_labels g) g ≡ full_profiles g
all_profiles g = grind (arith, length-map, map_twice)

pub one_strategic_form : (g : Game) (t u : Table) → IsStrategicForm g t → IsStrategicForm g u
    → t ≡ u
one_strategic_form g =
    one_form_by (strategy_labels g) (ArePayoffsAt g) g (full_profiles g) (all_profiles g)
    (λ profile i a b. one_row g (choices_by g (strategies_at g profile)) a b (players_of g))

pub strategic_form_exists : (g : Game) → ((t : Table) × IsStrategicForm g t) ↔ PaysFractions g
strategic_form_exists g = (
  λ form profile i.
      let row = rows_of_form (strategy_labels g) (ArePayoffsAt g) g (full_profiles g)
      (all_profiles g) form.0 form.1 profile i in
      of_row g (choices_by g (strategies_at g profile)) row.0 (players_of g) row.1,
  λ pays. some_form_by (strategy_labels g) (ArePayoffsAt g) g (full_profiles g) (all_profiles g)
      (λ profile i. row_of g (choices_by g (strategies_at g profile)) (players_of g)
      (pays profile i)),
)

pub form_is_table : (g : Game) (t : Table) → IsGame g → IsStrategicForm g t → IsTable t
form_is_table g t game =
    table_by (strategy_labels g) (ArePayoffsAt g) g (full_profiles g) (all_profiles g)
    (λ player. grind (arith, length-map, some_strategy))
    (λ p row i h. as_many _ row (players_of g) h) t

-- what is passed on to the table
pub ruleset table_steps = (length-map, IfOk-weaker)

-- ---- rows of payoffs at profiles in turn, and the table that they make

zip_of_one : {A B C : Type 0} (R : A → B → Type 0) (f : C → A) (g : C → B) (zs : List C)
    → AllZip R (map f zs) (map g zs) → AllByRecursion (λ z. R (f z) (g z)) zs
zip_of_one R f g [] h = tt
zip_of_one R f g (z ∷ zs) h = (h.0, zip_of_one R f g zs h.1)

-- rows of one length are known by what they make together
same_rows : {A : Type 0} (n : ℕ) (xs ys : List (List A)) → AllByRecursion (λ row. length row ≡ n) xs
    → AllByRecursion (λ row. length row ≡ n) ys → length xs ≡ length ys
    → flat_map (λ row. row) xs ≡ flat_map (λ row. row) ys → xs ≡ ys
same_rows n [] [] h k counted same = refl
same_rows n [] (y ∷ ys) h k counted same = absurd (omega (arith, counted))
same_rows n (x ∷ xs) [] h k counted same = absurd (omega (arith, counted))
same_rows n (x ∷ xs) (y ∷ ys) h k counted same =
    let others = λ (rows : List (List _)). flat_map (λ row. row) rows in
    let first : x ≡ y = cc (take-append_seam x (others xs), take-append_seam y (others ys)) in
    let rest : others xs ≡ others ys = grind (arith, append_cancel_left, first) in
    λ i. first i ∷ same_rows n xs ys h.1 k.1 (omega (arith, counted)) rest i

before_it : {A : Type 0} (P : A → Type 0) (xs : List A) (i k : ℕ) (x : A)
    → AllByRecursion P (take i xs) → k < i → slice_get xs k ≡ Some x → P x
before_it P (y ∷ ys) (suc i) (suc k) x h less is = before_it P ys i k x h.1 (omega (arith, less)) is
before_it P xs i k x h less is = grind arith

-- all before it hold, and it does not
pub first_without : (Holds : List ℕ → Type 0) (ps : List (List ℕ)) (i : ℕ) → i < length ps
    → AllByRecursion Holds (take i ps) → ¬ (Holds (get_or ps i []))
    → IsFirstWithout Holds ps (i + 1)
first_without Holds ps i less before fails = record {
  profile = get_or ps i [];
  there = ap (at_position ps) (add-one i) ∙ slice_get-get_or ps i [] less;
  overflows = fails;
  first = first;
}
  where
    first : (earlier : ℕ) (other : List ℕ) → earlier < i + 1
        → at_position ps earlier ≡ Some other → Holds other
    first zero other h is = absurd cc
    first (suc k) other h is = before_it Holds ps i k other before (omega (arith, h)) is

module _ (R : List ℕ → List Ratio → Type 0) where
  pub one_row_more : (ps : List (List ℕ)) (i : ℕ) (payoffs next row : List Ratio) → i < length ps
      → AreRowsAt R (take i ps) payoffs → R (get_or ps i []) row → next ≡ payoffs ++ row
      → AreRowsAt R (take (i + 1) ps) next
  one_row_more ps i payoffs next row less h right next_is =
      let all = λ (rows : List (List Ratio)). flat_map (λ row. row) rows in record {
        rows = h.rows ++ row ∷ [];
        joined = grind (arith, append-nil, flat_map-append);
        right = grind (arith, take-suc, add-one, all_zipped_more);
      }

counted : (n : ℕ) (rows : List (List Ratio)) → AllByRecursion (λ row. length row ≡ n) rows
    → length (flat_map (λ row. row) rows) ≡ length rows * n
counted n [] h = omega arith
counted n (row ∷ rows) h = grind (arith, length-append, suc-mul, counted n rows h.1)

all_first : {A B : Type 0} (P : A → Type 0) (Q : A → B → Type 0) (xs : List A) (ys : List B)
    → AllZip (λ x y. P x × Q x y) xs ys → AllByRecursion P xs
all_first P Q (x ∷ xs) (y ∷ ys) h = (h.0.0, all_first P Q xs ys h.1)
all_first P Q xs ys h = grind arith

-- ---- labels and rows of a form

module _ (labels : ℕ → List (List ℕ)) (R : List ℕ → List Ratio → Type 0) (g : Game)
    (all : List (List (List ℕ))) (payoffs : List Ratio) (ps : List (List ℕ))
    (same : form_profiles labels g ≡ ps) (named : all ≡ map labels (players_of g))
    (paid : (p : List ℕ) (row : List Ratio) → R p row → (choices : SetKey → ℕ)
    × ArePayoffs g choices row)
    (right : AreRowsAt R ps payoffs) where
  each_full : (p : List ℕ) (row : List Ratio) → R p row → length row ≡ length g.players
  each_full p row h = grind (arith, as_many, length-numbers_from)

  each_fraction : (p : List ℕ) (row : List Ratio) → R p row → AllByRecursion IsFraction row
  each_fraction p row h = all_first IsFraction _ row (players_of g) (paid p row h).1

  profiles_counted : product (map length all) ≡ length ps
  profiles_counted = cc (named, same, length-profiles (map length (map labels (players_of g))))

  pub fits_table : ((player : ℕ) → 0 < length (labels player)) → length ps ≤ profile_limit
      → FitsTable (length g.players) all payoffs
  fits_table some few = record {
    one_list_each = ap length named ∙ as_many_players g labels;
    some_strategy = grind (arith, all_mapped (λ own. 0 < length own) labels (players_of g) some);
    profiles = omega (arith, profiles_counted, few);
    fractions = grind (arith, all_joined, all_right, each_fraction);
    rows = grind (arith, counted, all_right, as_many, each_full, profiles_counted);
  }

  pub form_made : (t : Table) → IsTableOf t g.title g.comment g.players all payoffs
      → IsFormWith labels R g t
  form_made t made =
      let n = length g.players in
      let as_rows : length (rows t) ≡ length right.rows =
      grind (arith, length-map, as_many, named, same) in
      let are : rows t ≡ right.rows =
      same_rows n (rows t) right.rows
      (subst (λ (players : List (List ℕ)). AllByRecursion (λ row. length row ≡ length players)
      (rows t)) made.players_are made.is_table.one_payoff_each)
      (all_right R (λ row. length row ≡ n) each_full ps right.rows right.right) as_rows
      (made.payoffs_are ∙ right.joined) in
      grind (arith, zip_of_one, named, same)
