-- Games that are the same have the same payoffs, bottom-up values and forms, by pure and by reduced
-- strategies, and none for the same reason. The worked forms.
use Rattle.gf_form.proofs.Common
use Common.{carried_is_renumbered, spelled_is_spellable, AreReducedPayoffsAt, ReducedOverflowsAt, ℕ}
use Common.{lowest_of-fraction, reduced_strategies, same_set_equality, HasReducedValues, IsFormWith}
use Common.{outcome_at_image, IsStrategicForm, renumbered_node, strategy_labels, AllByRecursion, []}
use Common.{InformationSet, IsFirstWithout, renumbered_set, strategy_label, whole_fraction, IsEqual}
use Common.{IsReducedForm, IsRenumbering, filter_of_map, full_profiles, if◌then◌else◌, ArePayoffsAt}
use Common.{part_fraction, strategies_at, contradicted, set_at_image, IsSpellable, OverflowsAt, Has}
use Common.{Renumbering, all_of_each, is_relevant, overflowing, player_keys, player_sets, Described}
use Common.{same_choice, transport⁻¹, IsFraction, choices_by, entry_used, first_uses, players_of}
use Common.{reduced_at, reduced_by, renumbered, same_tests, sets_apart, strategies, HasValues, Bool}
use Common.{balancing, choice_at, game_read, map_twice, pointwise, positions, transport, used_sets}
use Common.{Contains, IsPaidAt, SameGame, comes_to, list_any, map_same, profiles, same_set, IsValue}
use Common.{unlikely, flatten, ok_game, reduced, AllZip, IsGame, Listed, SetKey, ending, get_or, ap}
use Common.{length, nat_lt, payoff, subst₂, Ratio, Table, arith, codes, meant, plays, subst, whole}
use Common.{Game, List, Node, None, Some, Step, held, refl, true, ◌*ℤ◌, ◌++◌, inl, inr, map, pos}
use Common.{zip, ◌+◌, ◌<◌, ◌↔◌, ◌∙◌, ◌∷◌, ◌≡◌}
use Rattle.gf_form.proofs.lemmas.values.Plays.{plays_carried, carried_step, same_payoff, AreAlike}
use Rattle.gf_form.proofs.lemmas.values.Plays.{value_alike, on_plays, IsAlike, OnSteps, OnPlay}
use Rattle.gf_form.proofs.lemmas.strategies.Chosen.{own_set}
use Rattle.std.specs.Fmt.{digits}
use Rattle.gf_fraction.specs.Offered.{gcd_within, product_of, lowest_of, number_of, sum_of}
use Rattle.gf_token.specs.Offered.{index_of, Gap, lex}
use Rattle.gf_tree.specs.Offered.{nothing, Format, run}
use Rattle.gf_tree.specs.WorkedTrees.{bonus}
use Rattle.gf_form.specs.WorkedForms.{ending_reduced, ending_form, bonus_form, second, only}
use Rattle.gf_form.proofs.lemmas.reduced.FirstStrategies.{reduced_made}
use Rattle.gf_form.proofs.lemmas.values.ValuesComputed.{none_computed}

-- ---- what is the same

any_carried : {X Y : Type 0} (f : X → Y) (p : Y → Bool) (q : X → Bool) (P : X → Type 0)
    → ((x : X) → P x → p (f x) ≡ q x) → (xs : List X) → AllByRecursion P xs
    → list_any p (map f xs) ≡ list_any q xs
any_carried f p q P same [] h = refl
any_carried f p q P same (x ∷ xs) h = grind (arith, any_carried f p q P same xs h.1)

-- what a strategy chooses at a set, by the new numbers
choice_carried : (f : SetKey → SetKey) (keys : List SetKey) (strategy : List ℕ) (key : SetKey)
    → ((k : SetKey) → Has keys k → same_set (f k) (f key) ≡ same_set k key)
    → choice_at (map f keys) strategy (f key) ≡ choice_at keys strategy key
choice_carried f (k ∷ keys) (action ∷ others) key h = λ i.
    if h k (inl refl) i then action else choice_carried f keys others key (λ x j. h x (inr j)) i
choice_carried f keys others key h = grind arith

module _ (g : Game) (r : Renumbering) (game : IsGame g) (is : IsRenumbering g r) where
  abbrev h : Game
  h = renumbered r g

  abbrev image : Described SetKey InformationSet → Described SetKey InformationSet
  image s = record { key = renumbered_set r s.key; description = s.description }

  sets_carried : (player : ℕ) → player_sets h player ≡ map image (player_sets g player)
  sets_carried player = grind (arith, filter_of_map)

  pub keys_carried : (player : ℕ)
      → player_keys h player ≡ map (renumbered_set r) (player_keys g player)
  keys_carried player = grind (arith, sets_carried, map_twice)

  pub key_used : (player : ℕ) (key : SetKey) → Has (player_keys g player) key
      → Has (used_sets g.tree) key
  key_used player key i = grind (arith, own_set, entry_used)

  tests_carried : (k key : SetKey) → Has (used_sets g.tree) k → Has (used_sets g.tree) key
      → same_set (renumbered_set r k) (renumbered_set r key) ≡ same_set k key
  tests_carried k key i j = grind (arith, same_tests, same_set_equality, sets_apart)

  -- what a player's strategy chooses at a set
  pub strategy_carried : (player : ℕ) (strategy : List ℕ) (key : SetKey)
      → Has (used_sets g.tree) key
      → choice_at (player_keys h player) strategy (renumbered_set r key)
      ≡ choice_at (player_keys g player) strategy key
  strategy_carried player strategy key used =
      grind (arith, keys_carried, choice_carried, tests_carried, key_used)

  choices_carried : (all : List (List ℕ)) (key : SetKey) → Has (used_sets g.tree) key
      → choices_by h all (renumbered_set r key) ≡ choices_by g all key
  choices_carried all key used = grind (arith, strategy_carried)

  -- ---- nodes

  alike : (all : List (List ℕ)) (player : ℕ) → AreAlike g h (choices_by g all) (choices_by h all)
      player (renumbered_node r) (flatten g.tree)
  alike all player = all_of_each
      (λ e. IsAlike g h (choices_by g all) (choices_by h all) player (renumbered_node r) e.node)
      (flatten g.tree) (λ e i.
      let used = λ (key : SetKey). held (λ n. n.set) (flatten g.tree) e key i in
      let paid = λ (number : ℕ). held (λ n. n.outcome) (flatten g.tree) e number i in record {
        chosen = λ k. grind (arith, choices_carried all, used);
        chance = λ k. grind (arith, set_at_image g r game is, used);
        pays = grind (arith, outcome_at_image g r game is, paid);
        moves = grind (arith, choices_carried all, used);
      })

  pub payoff_carried : (all : List (List ℕ)) (player : ℕ)
      → payoff h (choices_by h all) player ≡ payoff g (choices_by g all) player
  payoff_carried all player = same_payoff g h (choices_by g all) (choices_by h all) player
      (renumbered_node r) refl (alike all player)

  value_carried : (all : List (List ℕ)) (player : ℕ) (value : Ratio)
      → IsValue h (choices_by h all) player h.tree value
      ≡ IsValue g (choices_by g all) player g.tree value
  value_carried all player value =
      value_alike g h (choices_by g all) (choices_by h all) player (renumbered_node r) g.tree value
      (alike all player)

  -- ---- the form

  pub strategies_carried : (player : ℕ) → strategies h player ≡ strategies g player
  strategies_carried player = grind (arith, sets_carried, map_twice)

  pub strategies_at_carried : (profile : List ℕ) → strategies_at h profile ≡ strategies_at g profile
  strategies_at_carried profile = grind (arith, strategies_carried)

  pub profiles_carried : full_profiles h ≡ full_profiles g
  profiles_carried =
      λ i. profiles (map (λ player. length (strategies_carried player i)) (players_of g))

  paid_carried : (profile : List ℕ) (player : ℕ)
      → payoff h (choices_by h (strategies_at h profile)) player
      ≡ payoff g (choices_by g (strategies_at g profile)) player
  paid_carried profile player =
      ap (λ all. payoff h (choices_by h all) player) (strategies_at_carried profile)
      ∙ payoff_carried (strategies_at g profile) player

  right_carried : ArePayoffsAt h ≡ ArePayoffsAt g
  right_carried = λ i profile payoffs. AllZip
      (λ paid player. IsFraction paid × IsEqual paid (paid_carried profile player i)) payoffs
      (players_of g)

  value_at_carried : (profile : List ℕ) (player : ℕ) (value : Ratio)
      → IsValue h (choices_by h (strategies_at h profile)) player h.tree value
      ≡ IsValue g (choices_by g (strategies_at g profile)) player g.tree value
  value_at_carried profile player value =
      grind (arith, choices_by, strategies_at, strategies_at_carried, value_carried)

  values_carried : HasValues h ≡ HasValues g
  values_carried = λ i profile. AllByRecursion
      (λ player. (value : Ratio) × value_at_carried profile player value i) (players_of g)

  overflow_carried : (position : ℕ) → OverflowsAt h position ≡ OverflowsAt g position
  overflow_carried position = λ i. IsFirstWithout (values_carried i) (profiles_carried i) position

  form_carried : (labels others : ℕ → List (List ℕ)) (R S : List ℕ → List Ratio → Type 0)
      → others ≡ labels → S ≡ R → (t : Table) → IsFormWith labels R g t ↔ IsFormWith others S h t
  form_carried labels others R S e f t = grind (arith, positions, profiles, strategies, subst₂)

  strategic_carried : (t : Table) → IsStrategicForm g t ↔ IsStrategicForm h t
  strategic_carried = grind (arith, form_carried, strategies_carried, right_carried)

  -- ---- relevant sets

  -- its set is one of the game's
  abbrev HasUsed : Node → Type 0
  HasUsed n = (key : SetKey) → n.set ≡ Some key → Has (used_sets g.tree) key

  all_used : AllByRecursion (OnPlay HasUsed) (plays g.tree)
  all_used = on_plays HasUsed g.tree
      (all_of_each (λ (e : Listed Node). HasUsed e.node) (flatten g.tree)
      (λ e i key at. held (λ (n : Node). n.set) (flatten g.tree) e key i at))

  module _ (player : ℕ) (strategy : List ℕ) where
    abbrev c : SetKey → ℕ
    c key = choice_at (player_keys g player) strategy key

    abbrev d : SetKey → ℕ
    d key = choice_at (player_keys h player) strategy key

    comes_carried : (key : SetKey) → Has (used_sets g.tree) key → (steps : List Step)
        → OnSteps HasUsed steps
        → comes_to d (renumbered_set r key) (map (carried_step (renumbered_node r)) steps)
        ≡ comes_to c key steps
    comes_carried key used [] all = refl
    comes_carried key used (s ∷ steps) all =
        grind (arith, tests_carried, strategy_carried, comes_carried key used steps all.1)

    relevant_carried : (key : SetKey) → Has (used_sets g.tree) key
        → is_relevant h d (renumbered_set r key) ≡ is_relevant g c key
    relevant_carried key used = grind (arith, all_used, any_carried, comes_carried, plays_carried)

    -- ---- reduced strategies

    shown_carried : (key : SetKey) → Has (player_keys g player) key
        → (if is_relevant h d (renumbered_set r key) then Some (d (renumbered_set r key)) else None)
        ≡ (if is_relevant g c key then Some (c key) else None)
    shown_carried key i = grind (arith, key_used, relevant_carried, strategy_carried)

    pub reduced_carried : reduced h player strategy ≡ reduced g player strategy
    reduced_carried = ap (map _) (keys_carried player)
        ∙ map_twice _ (renumbered_set r) (player_keys g player)
        ∙ map_same _ _ (player_keys g player) shown_carried

  pub reduced_strategies_carried : (player : ℕ)
      → reduced_strategies h player ≡ reduced_strategies g player
  reduced_strategies_carried player = λ i. first_uses (pointwise same_choice)
      (map (λ strategy. reduced_carried player strategy i) (strategies_carried player i))

  pub reduced_by_carried : (profile : List ℕ) → reduced_by h profile ≡ reduced_by g profile
  reduced_by_carried profile = λ i. map (λ p. reduced_carried p.0 p.1 i)
      (zip (players_of g) (strategies_at_carried profile i))

  reduced_at_carried : (profile : List ℕ) → reduced_at h profile ≡ reduced_at g profile
  reduced_at_carried profile = grind (arith, reduced_strategies_carried)

  reduced_right_carried : AreReducedPayoffsAt h ≡ AreReducedPayoffsAt g
  reduced_right_carried = λ i profile payoffs. (full : List ℕ) → Contains (profiles_carried i) full
      → reduced_by_carried full i ≡ reduced_at_carried profile i → right_carried i full payoffs

  reduced_values_carried : HasReducedValues h ≡ HasReducedValues g
  reduced_values_carried = λ i profile. (full : List ℕ) → Contains (profiles_carried i) full
      → reduced_by_carried full i ≡ reduced_at_carried profile i → values_carried i full

  reduced_overflow_carried : (position : ℕ)
      → ReducedOverflowsAt h position ≡ ReducedOverflowsAt g position
  reduced_overflow_carried position =
      grind (arith, players_of, profiles, reduced_strategies_carried, reduced_values_carried)

  reduced_form_carried : (t : Table) → IsReducedForm g t ↔ IsReducedForm h t
  reduced_form_carried =
      grind (arith, form_carried, reduced_strategies_carried, reduced_right_carried)

-- ---- games that are the same

module _ (g h : Game) (game : IsGame g) (game' : IsGame h) (same : SameGame g h) where
  -- what holds of a game by new numbers
  over : (P : Game → Type 0) → P (renumbered same.0 g) → P h
  over P = subst P (carried_is_renumbered same.0 g h game game' same.1)

  -- types that are equal hold alike
  alike_in : (P : Game → Type 0) → P (renumbered same.0 g) ≡ P g → P g ↔ P h
  alike_in P e = over (λ x. P g ↔ P x) (transport⁻¹ e, transport e)

  pub same_values : (all : List (List ℕ)) (player : ℕ) (value : Ratio)
      → IsValue g (choices_by g all) player g.tree value
      ↔ IsValue h (choices_by h all) player h.tree value
  same_values all player value = grind (arith, alike_in, value_carried)

  pub same_forms : (t : Table) → IsStrategicForm g t ↔ IsStrategicForm h t
  same_forms t = over (λ x. IsStrategicForm g t ↔ IsStrategicForm x t)
      (strategic_carried g same.0 game same.1.renumbering t)

  pub same_overflow : (position : ℕ) → OverflowsAt g position ↔ OverflowsAt h position
  same_overflow position = grind (arith, alike_in, overflow_carried)

  pub same_reduced_forms : (t : Table) → IsReducedForm g t ↔ IsReducedForm h t
  same_reduced_forms t = over (λ x. IsReducedForm g t ↔ IsReducedForm x t)
      (reduced_form_carried g same.0 game same.1.renumbering t)

  pub same_reduced_overflow : (position : ℕ)
      → ReducedOverflowsAt g position ↔ ReducedOverflowsAt h position
  same_reduced_overflow position = grind (arith, alike_in, reduced_overflow_carried)

pub ruleset same_by_pure = (
  carried_is_renumbered,
  payoff_carried,
  strategies_carried,
  strategies_at_carried,
  same_values,
  profiles_carried,
  same_overflow,
)

pub ruleset same_by_reduced = (
  carried_is_renumbered,
  reduced_carried,
  reduced_strategies_carried,
  reduced_by_carried,
  same_reduced_overflow,
)

-- ---- worked games, which files can hold

abbrev IsHeld : Game → Type 0
IsHeld g = IsGame g × IsSpellable g

held_by : (g : Game) (bytes : List ℕ)
    → game_read (run (length bytes) Format nothing (lex Gap 0 bytes)) ≡ ok_game g → IsHeld g
held_by g bytes e = spelled_is_spellable bytes g (meant bytes g e)

pub worked_games : AllByRecursion IsHeld
    (overflowing ∷ unlikely ∷ balancing ∷ ending ∷ contradicted ∷ [])
unfolding lex digits index_of number_of sum_of lowest_of gcd_within
worked_games =
    let o = held_by overflowing (codes "EFG 2 R \"o\" { \"A\" } p \"\" 1 1 \"i\" { \"a\" \"b\" } 1 "
    ++ codes "\"x\" { -1 } t \"\" 0 p \"\" 1 2 \"j\" { \"c\" } "
    ++ codes "2 \"y\" { 170141183460469231731687303715884105727 } t \"\" 3 \"z\" { 1 }") refl in
    let u = held_by unlikely (codes "EFG 2 R \"q\" { \"A\" } c \"\" 1 \"n\" { \"a\" 1 \"b\" 0 } 0 "
    ++ codes "t \"\" 1 \"x\" { 1 } c \"\" 2 \"k\" { \"e\" 1 } "
    ++ codes "2 \"y\" { 170141183460469231731687303715884105727 } t \"\" 1") refl in
    let b = held_by balancing (codes "EFG 2 R \"b\" { \"A\" } c \"\" 1 \"n\" { \"h\" 1/2 \"t\" 1/2 } "
    ++ codes "1 \"x\" { -85070591730234615865843651857942052863 } "
    ++ codes "t \"\" 2 \"y\" { 170141183460469231731687303715884105727 } "
    ++ codes "t \"\" 3 \"z\" { 170141183460469231731687303715884105725 }") refl in
    let e = held_by ending (codes "EFG 2 R \"r\" { \"A\" } p \"\" 1 1 \"i\" { \"a\" \"b\" } 0 "
    ++ codes "t \"\" 1 \"x\" { 1 } p \"\" 1 2 \"j\" { \"c\" \"d\" } 0 "
    ++ codes "t \"\" 2 \"y\" { 2 } t \"\" 3 \"z\" { 3 }") refl in
    let c = held_by contradicted (codes "EFG 2 R \"\" { \"A\" } p \"\" 1 1 \"\" { \"\" \"\" } 0 "
    ++ codes "p \"\" 1 1 0 t \"\" 0 p \"\" 1 2 \"\" { \"\" \"\" } 0 "
    ++ codes "t \"\" 0 t \"\" 0 t \"\" 0") refl in
    (o, (u, (b, (e, (c, tt)))))

-- ---- fractions

small : (n : ℕ) → n < 4 → IsFraction (whole (pos n))
small n h = whole_fraction n (omega arith)

pub equal : (x y : Ratio) → nat_lt 0 x.den ≡ true → nat_lt 0 y.den ≡ true
    → x.num *ℤ pos y.den ≡ y.num *ℤ pos x.den → IsEqual x y
equal x y left right crosswise = grind arith

three_halves : IsFraction (record { num = pos 3; den = 2 })
unfolding lowest_of gcd_within
three_halves = lowest_of-fraction (pos 3) 2 (omega arith) (omega arith) (omega arith)

pub form_of_bonus : IsStrategicForm bonus bonus_form
unfolding digits
form_of_bonus = grind (arith, three_halves, equal, small, part_fraction)

-- ---- payoffs without a bottom-up value

abbrev HasNone : Game → List (List ℕ) → Type 0
HasNone g all = ¬ ((value : Ratio) × IsValue g (choices_by g all) 1 g.tree value)

pub no_values : HasNone overflowing second × HasNone unlikely only × HasNone balancing only
unfolding sum_of product_of lowest_of gcd_within
no_values = (
  none_computed overflowing worked_games.0.1 (choices_by overflowing second) 1
      overflowing.tree refl,
  none_computed unlikely worked_games.1.0.1 (choices_by unlikely only) 1 unlikely.tree refl,
  none_computed balancing worked_games.1.1.0.1 (choices_by balancing only) 1 balancing.tree refl,
)

-- ---- the action that ends the play

pub form_of_ending : IsStrategicForm ending ending_form
unfolding digits
form_of_ending = grind (arith, equal, small)

-- the payoff at the full profile with this number is that of a reduced strategy
paid_at : (n strategy paid : ℕ) → paid < 4 → n < 4
    → get_or (full_profiles ending) n ((n + 1) ∷ []) ≡ (n + 1) ∷ []
    → reduced_by ending ((n + 1) ∷ []) ≡ reduced_at ending (strategy ∷ [])
    → IsEqual (whole (pos paid))
    (payoff ending (choices_by ending (strategies_at ending ((n + 1) ∷ []))) 1)
    → IsPaidAt ending (strategy ∷ []) (whole (pos paid) ∷ [])
paid_at n strategy paid few less there reduces is = record {
  full = (n + 1) ∷ [];
  there = (n, less, there);
  reduces = reduces;
  paid = ((small paid few, is), tt);
}

pub reduced_of_ending : IsReducedForm ending ending_reduced
unfolding digits
reduced_of_ending =
    let first = paid_at 0 1 1 (omega arith) (omega arith) refl refl (equal _ _ refl refl refl) in
    let second = paid_at 2 2 2 (omega arith) (omega arith) refl refl (equal _ _ refl refl refl) in
    let third = paid_at 3 3 3 (omega arith) (omega arith) refl refl (equal _ _ refl refl refl) in
    reduced_made ending ending_reduced (grind (arith, first, second, third))
