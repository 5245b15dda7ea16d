-- Strategies that reduce to the same one agree with the same plays, and full profiles that do have
-- the same payoffs and bottom-up values.
use Rattle.gf_form.proofs.Common
use Common.{same_set_equality, IsTerminalValue, AllByRecursion, IsChanceValue, if◌then◌else◌, Ratio}
use Common.{is_own_choice, option_map_or, strategies_at, ArePayoffsAt, IsChildValue, MultipliesTo}
use Common.{numbers_from, IsMoveValue, MatchOption, is_relevant, player_keys, probability, Contains}
use Common.{strategy_at, transport⁻¹, used_before, IsFraction, choices_by, players_of, plays_from}
use Common.{reduced_by, strategies, zero_ratio, HasValues, MatchBool, choice_at, eqb-false, IsEqual}
use Common.{from_node, is_chosen, one_ratio, payoff_at, transport, comes_to, eqb-true, in_right, []}
use Common.{list_all, list_any, map_same, or_right, same_set, IsValue, follows, has_map, in_left, ℕ}
use Common.{or_left, reduced, AddsTo, AllZip, Option, SetKey, agrees, branch, get_or, length, Trees}
use Common.{payoff, arith, false, plays, subst, total, Bool, Game, List, Node, None, Play, Some, ap}
use Common.{Step, Tree, drop, more, none, refl, true, zero, ◌==◌, ◌||◌, Has, has, inl, inr, map}
use Common.{not, suc, sym, zip, ◌+◌, ◌-◌, ◌<◌, ◌↔◌, ◌∙◌, ◌∷◌, ◌≡◌}
use Rattle.gf_form.proofs.lemmas.strategies.Chosen.{strategy_before, own_set}
use Rattle.gf_form.proofs.lemmas.values.BottomUp.{payoff_is, share}

-- ---- tests

pub any_has : {X : Type 0} (test : X → Bool) (xs : List X) (x : X) → Has xs x → test x ≡ true
    → list_any test xs ≡ true
any_has test [] x i h = absurd i
any_has test (y ∷ ys) x (inl e) h = or_left (test y) (list_any test ys) (ap test e ∙ h)
any_has test (y ∷ ys) x (inr i) h = or_right (test y) (list_any test ys) (any_has test ys x i h)

-- ---- equal reduced strategies

mapped_alike : {X : Type 0} (f h : X → Option ℕ) (xs : List X) (x : X)
    → map f xs ≡ map h xs → Has xs x → f x ≡ h x
mapped_alike f h [] x e i = absurd i
mapped_alike f h (y ∷ ys) x e (inl q) = subst (λ z. f z ≡ h z) q (ap (λ l. get_or l 0 None) e)
mapped_alike f h (y ∷ ys) x e (inr i) = mapped_alike f h ys x (ap (drop 1) e) i

-- a set that is not one of these has no choice
none_chosen : (keys : List SetKey) (strategy : List ℕ) (key : SetKey)
    → list_any (same_set key) keys ≡ false → choice_at keys strategy key ≡ 0
none_chosen (k ∷ keys) (action ∷ strategy) key h =
    grind (arith, same_set_equality, none_chosen keys strategy key)
none_chosen keys strategy key h = grind arith

-- ---- along a play

-- choices that are equal at the sets to which the first ones come, of players who are not free to
-- choose anything
module _ (free : ℕ → Bool) (c d : SetKey → ℕ) where
  abbrev AreEqualOn : List Step → Type 0
  AreEqualOn steps = (key : SetKey) → free key.player ≡ false → comes_to c key steps ≡ true
      → c key ≡ d key

  -- a move is free, or as chosen
  abbrev is_right : (SetKey → ℕ) → Step → Bool
  is_right choices s =
      option_map_or (λ key. free key.player || choices key == s.taken) s.node.set true

  pub own_right : (p : ℕ) (o : Option SetKey) (k : ℕ) → free p ≡ false
      → option_map_or (λ key. free key.player || c key == k) o true ≡ true
      → option_map_or (λ key. not (key.player == p) || c key == k) o true ≡ true
  own_right p o k bound h = grind (arith, eqb-true)

  pub equal_later : (s : Step) (rest : List Step) → AreEqualOn (s ∷ rest) → is_right c s ≡ true
      → AreEqualOn rest
  equal_later s rest equal h key bound come = grind (arith, own_right)

  step_same : (s : Step) (rest : List Step) → AreEqualOn (s ∷ rest) → is_right c s ≡ is_right d s
  step_same s rest equal = grind (arith, equal, same_set_equality)

  pub all_same : (steps : List Step) → AreEqualOn steps
      → list_all (is_right c) steps ≡ list_all (is_right d) steps
  all_same [] equal = refl
  all_same (s ∷ rest) equal =
      let later = λ (his : is_right c s ≡ true). all_same rest (equal_later s rest equal his) in
      grind (arith, step_same s rest equal, later)

-- all players but one
abbrev is_other : ℕ → ℕ → Bool
is_other player p = not (p == player)

abbrev pub is_chance : ℕ → Bool
is_chance p = p == 0

module _ (g : Game) (player : ℕ) where
  abbrev pub chosen : List ℕ → SetKey → ℕ
  chosen strategy key = choice_at (player_keys g player) strategy key

  pub same_where_relevant : (s t : List ℕ) → reduced g player s ≡ reduced g player t
      → (key : SetKey) → is_relevant g (chosen s) key ≡ true → chosen s key ≡ chosen t key
  same_where_relevant s t e key relevant =
      let there = used_before same_set same_set_equality (player_keys g player) key in
      grind (arith, there, mapped_alike, none_chosen)

  module _ (c d : SetKey → ℕ) where
    comes_same : (key : SetKey) → key.player ≡ player → (rest : List Step)
        → AreEqualOn (is_other player) c d rest → comes_to c key rest ≡ comes_to d key rest
    comes_same key own [] equal = refl
    comes_same key own (s ∷ rest) equal =
        let later = λ (his : is_own_choice c player s ≡ true). comes_same key own rest (equal_later
        (is_other player) c d s rest equal his) in
        grind (arith, step_same)

    any_same : (p q : Play → Bool) (ps : List Play) → ((x : Play) → Has ps x → p x ≡ q x)
        → list_any p ps ≡ list_any q ps
    any_same p q [] h = refl
    any_same p q (x ∷ ps) h = λ i. h x (inl refl) i || any_same p q ps (λ y j. h y (inr j)) i

    -- choices that are equal at the sets that are relevant under some have the same relevant sets
    relevance_same : ((key : SetKey) → key.player ≡ player → is_relevant g c key ≡ true
        → c key ≡ d key)
        → (key : SetKey) → key.player ≡ player → is_relevant g c key ≡ is_relevant g d key
    relevance_same same key own = grind (arith, any_same, comes_same, any_has, eqb-true)

  -- strategies that are equal at the sets that are relevant under one reduce to the same
  pub reduced_same : (s t : List ℕ) → ((key : SetKey) → key.player ≡ player
      → is_relevant g (chosen s) key ≡ true → chosen s key ≡ chosen t key)
      → reduced g player s ≡ reduced g player t
  reduced_same s t same = grind (arith, map_same, own_set, relevance_same)

  pub reduced_agree : (s t : List ℕ) → reduced g player s ≡ reduced g player t → (play : Play)
      → Contains (plays g.tree) play → agrees (choice_at (player_keys g player) s) player play
      ≡ agrees (choice_at (player_keys g player) t) player play
  reduced_agree s t e play i =
      all_same (is_other player) (chosen s) (chosen t) play.steps (λ key bound come.
      same_where_relevant s t e key (any_has (λ (p : Play). comes_to (chosen s) key p.steps)
      (plays g.tree) play (has (plays g.tree) play i) come))

-- ---- profiles that reduce to the same one

module _ (g : Game) where
  abbrev pub AreReducedAlike : List (List ℕ) → List (List ℕ) → Type 0
  AreReducedAlike all others =
      (p : ℕ) → 0 < p → reduced g p (strategy_at all p) ≡ reduced g p (strategy_at others p)

  -- what a player chooses is by their own strategy
  his_comes : (all : List (List ℕ)) (key : SetKey) (steps : List Step)
      → comes_to (choices_by g all) key steps
      ≡ comes_to (chosen g key.player (strategy_at all key.player)) key steps
  his_comes all key steps = grind (arith, comes_same, eqb-true)

  equal_for : (all others : List (List ℕ)) → AreReducedAlike all others → (play : Play)
      → Has (plays g.tree) play
      → AreEqualOn is_chance (choices_by g all) (choices_by g others) play.steps
  equal_for all others alike play i key bound come =
      grind (arith, eqb-false, same_where_relevant, any_has, his_comes)

  -- the strategies of these players, and what they reduce to
  abbrev strategies_of : List ℕ → List ℕ → List (List ℕ)
  strategies_of players profile =
      map (λ p. strategy_at (strategies g p.0) p.1) (zip players profile)

  reduced_there : (k n : ℕ) (p : List ℕ) (i : ℕ)
      → reduced g (k + i) (get_or (strategies_of (numbers_from k n) p) i [])
      ≡ get_or (map (λ r. reduced g r.0 r.1)
      (zip (numbers_from k n) (strategies_of (numbers_from k n) p))) i (reduced g (k + i) [])
  reduced_there k (suc n) (s ∷ p) (suc i) = grind (arith, reduced_there (k + 1) n p i)
  reduced_there k n p i = grind arith

  pub reduced_alike : (p q : List ℕ) → reduced_by g p ≡ reduced_by g q
      → AreReducedAlike (strategies_at g p) (strategies_at g q)
  reduced_alike p q e k above =
      grind (
        arith,
        reduced_there 1 (length g.players) p (k - 1),
        reduced_there 1 (length g.players) q (k - 1),
        strategy_before (strategies_at g p) k above,
        strategy_before (strategies_at g q) k above,
      )

  pub reduced_pay : (player : ℕ) (p q : List ℕ) → reduced_by g p ≡ reduced_by g q
      → payoff g (choices_by g (strategies_at g p)) player
      ≡ payoff g (choices_by g (strategies_at g q)) player
  reduced_pay player p q e =
      let c = choices_by g (strategies_at g p) in
      let d = choices_by g (strategies_at g q) in
      let equal = equal_for (strategies_at g p) (strategies_at g q) (reduced_alike p q e) in
      let paid = λ (by : SetKey → ℕ) (play : Play).
      if follows by play then share g c player one_ratio zero_ratio play else zero_ratio in
      sym (payoff_is g c player)
      ∙ ap total (map_same (paid c) (paid d) (plays g.tree) (λ play i.
      ap (λ (b : Bool). if b then share g c player one_ratio zero_ratio play else zero_ratio)
      (all_same is_chance c d play.steps (equal play i))))
      ∙ payoff_is g d player

-- ---- bottom-up values

-- every tree has a play
pub first_play : (t : Tree Node) → (p : Play) × Has (plays t) p
first_play (branch n none) = (record { steps = []; leaf = n }, inl refl)
first_play (branch n (more t ts)) =
    let p = first_play t in (
      from_node n 1 p.0,
      in_left (map (from_node n 1) (plays t)) (plays_from n 2 ts)
          (from_node n 1 p.0) (has_map (from_node n 1) (plays t) p.0 p.1),
    )

module _ (g : Game) (c d : SetKey → ℕ) (player : ℕ) where
  abbrev AreEqualIn : List Play → Type 0
  AreEqualIn ps = (p : Play) → Has ps p → AreEqualOn is_chance c d p.steps

  abbrev IsChosen : Node → ℕ → Type 0
  IsChosen n k = is_chosen c (record { node = n; taken = k }) ≡ true

  abbrev BelowAt : (SetKey → ℕ) → Node → Trees Node → SetKey → Bool → Ratio → Type 0
  BelowAt choices n ts key b below = MatchBool b (IsChanceValue g choices player n 1 zero_ratio ts
      below) (IsChildValue g choices player (choices key) ts below)

  abbrev ValueAt : (SetKey → ℕ) → Node → Trees Node → Option SetKey → Ratio → Type 0
  ValueAt choices n ts o value = MatchOption o (IsTerminalValue g player n value)
      (λ key. IsMoveValue g player n key (IsChanceValue g choices player n 1 zero_ratio ts)
      (IsChildValue g choices player (choices key) ts) value)

  -- the plays through the first of these children, and through the others
  through : (n : Node) (k : ℕ) (t : Tree Node) (ts : Trees Node) (p : Play) → Has (plays t) p
      → Has (plays_from n k (more t ts)) (from_node n k p)
  through n k t ts p i =
      in_left (map (from_node n k) (plays t)) (plays_from n (k + 1) ts) (from_node n k p)
      (has_map (from_node n k) (plays t) p i)

  equal_here : (n : Node) (k : ℕ) (t : Tree Node) (ts : Trees Node) (key : SetKey)
      → AreEqualIn (plays_from n k (more t ts)) → n.set ≡ Some key
      → is_chance key.player ≡ false → c key ≡ d key
  equal_here n k t ts key equal at bound =
      let p = first_play t in
      equal (from_node n k p.0) (through n k t ts p.0 p.1) key bound
      (grind (arith, same_set_equality))

  equal_first : (n : Node) (k : ℕ) (t : Tree Node) (ts : Trees Node)
      → AreEqualIn (plays_from n k (more t ts)) → IsChosen n k → AreEqualIn (plays t)
  equal_first n k t ts equal chosen p i =
      equal_later is_chance c d (record { node = n; taken = k }) p.steps
      (equal (from_node n k p) (through n k t ts p i)) chosen

  equal_others : (n : Node) (k : ℕ) (t : Tree Node) (ts : Trees Node)
      → AreEqualIn (plays_from n k (more t ts)) → AreEqualIn (plays_from n (k + 1) ts)
  equal_others n k t ts equal p i =
      equal p (in_right (map (from_node n k) (plays t)) (plays_from n (k + 1) ts) p i)

  node_same : (n : Node) (t : Tree Node) (ts : Trees Node) → AreEqualIn (plays_from n 1 (more t ts))
      → (o : Option SetKey) → n.set ≡ o
      → (((k : ℕ) → IsChosen n k) → IsChanceValue g c player n 1 zero_ratio (more t ts)
      ≡ IsChanceValue g d player n 1 zero_ratio (more t ts))
      → ((position : ℕ) → IsChosen n position → IsChildValue g c player position (more t ts)
      ≡ IsChildValue g d player position (more t ts))
      → ValueAt c n (more t ts) o ≡ ValueAt d n (more t ts) o
  node_same n t ts equal None at chance child = refl
  node_same n t ts equal (Some key) at chance child =
      λ i value. (below : Ratio) × by (key.player == 0) refl i below
      × AddsTo (payoff_at g player n) below value
    where
      by : (b : Bool) → (key.player == 0) ≡ b
          → BelowAt c n (more t ts) key b ≡ BelowAt d n (more t ts) key b
      by true e = chance (λ k. grind arith)
      by false e =
          child (c key) (grind arith)
          ∙ ap (λ k. IsChildValue g d player k (more t ts))
          (equal_here n 1 t ts key equal at e)

  mutual
    value_same : (t : Tree Node) → AreEqualIn (plays t)
        → IsValue g c player t ≡ IsValue g d player t
    value_same (branch n none) equal = refl
    value_same (branch n (more t ts)) equal =
        node_same n t ts equal n.set refl (chance_same (more t ts) n 1 zero_ratio equal)
        (λ position. child_same (more t ts) n 1 position position equal (omega arith))

    chance_same : (ts : Trees Node) (n : Node) (k : ℕ) (sum : Ratio)
        → AreEqualIn (plays_from n k ts) → ((j : ℕ) → IsChosen n j)
        → IsChanceValue g c player n k sum ts ≡ IsChanceValue g d player n k sum ts
    chance_same none n k sum equal every = refl
    chance_same (more t ts) n k sum equal every =
        λ i value. (x y next : Ratio) × value_same t (equal_first n k t ts equal (every k)) i x
        × MultipliesTo (probability g (record { node = n; taken = k })) x y × AddsTo sum y next
        × chance_same ts n (k + 1) next (equal_others n k t ts equal) every i value

    -- the child at this position is taken, which is the one of these at that position
    child_same : (ts : Trees Node) (n : Node) (k taken position : ℕ)
        → AreEqualIn (plays_from n k ts) → suc taken ≡ position + k → IsChosen n taken
        → IsChildValue g c player position ts ≡ IsChildValue g d player position ts
    child_same (more t ts) n k taken (suc zero) equal e there =
        let same : taken ≡ k = omega (arith, e) in
        value_same t (equal_first n k t ts equal (subst (λ j. IsChosen n j) same there))
    child_same (more t ts) n k taken (suc (suc position)) equal e there =
        child_same ts n (k + 1) taken (suc position) (equal_others n k t ts equal)
        (omega (arith, e)) there
    child_same ts n k taken position equal e there = refl

-- ---- rows and values at profiles that reduce to the same one

module _ (g : Game) (p q : List ℕ) (e : reduced_by g p ≡ reduced_by g q) where
  same_value : (player : ℕ) → IsValue g (choices_by g (strategies_at g p)) player g.tree
      ≡ IsValue g (choices_by g (strategies_at g q)) player g.tree
  same_value player =
      value_same g (choices_by g (strategies_at g p)) (choices_by g (strategies_at g q)) player
      g.tree (equal_for g (strategies_at g p) (strategies_at g q) (reduced_alike g p q e))

  pub same_values : HasValues g p → HasValues g q
  same_values = transport (λ i.
      AllByRecursion (λ player. (value : Ratio) × same_value player i value) (players_of g))

  pub same_row : (row : List Ratio) → ArePayoffsAt g p row → ArePayoffsAt g q row
  same_row row = transport (λ i. AllZip (λ paid player. IsFraction paid
      × IsEqual paid (reduced_pay g player p q e i)) row (players_of g))

pub reduced_value : (g : Game) (player : ℕ) (p q : List ℕ) (value : Ratio) → reduced_by g p
    ≡ reduced_by g q → IsValue g (choices_by g (strategies_at g p)) player g.tree value
    ↔ IsValue g (choices_by g (strategies_at g q)) player g.tree value
reduced_value g player p q value e =
    let same = same_value g p q e player in
    (transport (λ i. same i value), transport⁻¹ (λ i. same i value))
