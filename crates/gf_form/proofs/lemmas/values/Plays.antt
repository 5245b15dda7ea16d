-- Trees whose nodes are alike, each to its image, in what is chosen, how probable it is and what it
-- pays, have the same payoff and bottom-up value. Which plays follow the same choices: if these are
-- actions, some play does, and the probabilities of those that do come to one.
use Rattle.gf_form.proofs.Common
use Common.{play_probability, AllByRecursion, IsChanceValue, IsChildValue, MultipliesTo, HasActions}
use Common.{PartAtChance, chance_value, HasChildren, IsSpellable, MatchOption, child_value, IsEqual}
use Common.{flatten_all, mapped_from, play_payoff, probability, all_images, all_weaker, chances_at}
use Common.{map-append, plays_from, zero_ratio, MatchBool, all_parts, from_node, is_chosen, IsValue}
use Common.{map_trees, map_twice, of_filter, one_ratio, payoff_at, Contains, all_both, contains, []}
use Common.{list_all, map_tree, nodes_of, flatten, follows, AddsTo, IsGame, Listed, Option, SetKey}
use Common.{branch, filter, payoff, Ratio, Trees, arith, count, plays, times, total, value, Game, ℕ}
use Common.{List, Node, None, Play, Some, Step, Tree, more, none, plus, refl, true, zero, ◌++◌, Has}
use Common.{◌==◌, has, inl, inr, map, suc, sym, ◌+◌, ◌<◌, ◌↔◌, ◌∙◌, ◌∷◌, ◌≡◌, ◌≤◌, ◌⊎◌, ap}
use Rattle.gf_form.proofs.lemmas.strategies.Chosen.{chance_is_paid_nothing}
use Rattle.gf_form.proofs.lemmas.values.BottomUp.{once_times, shares_are, times_once, tree_pays}
use Rattle.gf_form.proofs.lemmas.values.BottomUp.{has_set, over}
use Rattle.gf_form.proofs.lemmas.values.ValuesComputed.{probability_fraction, zero_fraction}
use Rattle.gf_form.proofs.lemmas.values.ValuesComputed.{zeros_weighed, plus_zero, value_is}

-- ---- plays by other nodes

-- the same steps, by other nodes
abbrev pub carried_step : (Node → Node) → Step → Step
carried_step f s = record { node = f s.node; taken = s.taken }

abbrev pub carried_play : (Node → Node) → Play → Play
carried_play f p = record { steps = map (carried_step f) p.steps; leaf = f p.leaf }

mutual
  pub plays_carried : (f : Node → Node) (t : Tree Node)
      → plays (map_tree f t) ≡ map (carried_play f) (plays t)
  plays_carried f (branch n none) = refl
  plays_carried f (branch n (more t ts)) = children_carried f n 1 (more t ts)

  children_carried : (f : Node → Node) (n : Node) (k : ℕ) (ts : Trees Node)
      → plays_from (f n) k (map_trees f ts) ≡ map (carried_play f) (plays_from n k ts)
  children_carried f n k none = refl
  children_carried f n k (more t ts) =
      grind (arith, plays_carried f t, children_carried f n (k + 1) ts, map_twice, map-append)

-- what holds for the nodes of a tree holds for those on its plays
module _ (P : Node → Type 0) where
  abbrev pub OnSteps : List Step → Type 0
  OnSteps steps = AllByRecursion (λ s. P s.node) steps

  abbrev pub OnPlay : Play → Type 0
  OnPlay p = OnSteps p.steps × P p.leaf

  mutual
    pub on_plays : (t : Tree Node) → AllByRecursion (λ e. P e.node) (flatten t)
        → AllByRecursion OnPlay (plays t)
    on_plays (branch n none) h = ((tt, h.0), tt)
    on_plays (branch n (more t ts)) h = on_children (more t ts) n 1 h.0 h.1

    on_children : (ts : Trees Node) (n : Node) (k : ℕ) → P n
        → AllByRecursion (λ e. P e.node) (flatten_all ts)
        → AllByRecursion OnPlay (plays_from n k ts)
    on_children none n k here h = tt
    on_children (more t ts) n k here h =
        let both = all_parts (λ (e : Listed Node). P e.node) (flatten t) (flatten_all ts) h in
        all_both OnPlay (map (from_node n k) (plays t)) (plays_from n (k + 1) ts)
        (all_images OnPlay (from_node n k) (plays t)
        (all_weaker OnPlay (λ p. OnPlay (from_node n k p)) (λ p on. ((here, on.0), on.1)) (plays t)
        (on_plays t both.0)))
        (on_children ts n (k + 1) here both.1)

-- the value at a node of this set, or without one
abbrev ValueAt : Option SetKey → (SetKey → ℕ) → Ratio → (Ratio → Type 0) → (ℕ → Ratio → Type 0)
    → Ratio → Type 0
ValueAt o c own ByChance ByChild value = MatchOption o (value ≡ own) (λ key. (below : Ratio)
    × MatchBool (key.player == 0) (ByChance below) (ByChild (c key) below) × AddsTo own below value)

module _ (g h : Game) (c d : SetKey → ℕ) (player : ℕ) (f : Node → Node) where
  pub record IsAlike (n : Node) : Type 0 where
    pub chosen : (k : ℕ) → is_chosen d (record { node = f n; taken = k })
        ≡ is_chosen c (record { node = n; taken = k })
    pub chance : (k : ℕ) → probability h (record { node = f n; taken = k })
        ≡ probability g (record { node = n; taken = k })
    pub pays : payoff_at h player (f n) ≡ payoff_at g player n
    pub moves : MatchOption n.set ((f n).set ≡ None) (λ key. (other : SetKey)
        × ((f n).set ≡ Some other) × ((other.player == 0) ≡ (key.player == 0)) × (d other ≡ c key))

  abbrev pub AreAlike : List (Listed Node) → Type 0
  AreAlike es = AllByRecursion (λ e. IsAlike e.node) es

  -- ---- payoffs

  -- a play and its image
  abbrev IsSamePlay : Play → Type 0
  IsSamePlay p = (follows d (carried_play f p) ≡ follows c p)
      × (play_probability h (carried_play f p) ≡ play_probability g p)
      × (play_payoff h player (carried_play f p) ≡ play_payoff g player p)

  same_play : (steps : List Step) (leaf : Node)
      → OnPlay IsAlike (record { steps = steps; leaf = leaf })
      → IsSamePlay (record { steps = steps; leaf = leaf })
  same_play [] leaf on = (refl, refl, ap (λ r. plus r zero_ratio) on.1.pays)
  same_play (s ∷ steps) leaf on = grind (arith, same_play steps leaf (on.0.1, on.1))

  same_total : (ps : List Play) → AllByRecursion (OnPlay IsAlike) ps
      → total (map (λ p. times (play_probability h p) (play_payoff h player p))
      (filter (follows d) (map (carried_play f) ps)))
      ≡ total (map (λ p. times (play_probability g p) (play_payoff g player p))
      (filter (follows c) ps))
  same_total [] on = refl
  same_total (p ∷ ps) on = grind (arith, same_play p.steps p.leaf on.0, same_total ps on.1)

  pub same_payoff : h.tree ≡ map_tree f g.tree → AreAlike (flatten g.tree)
      → payoff h d player ≡ payoff g c player
  same_payoff tree a =
      rw (tree, plays_carried) (same_total (plays g.tree) (on_plays IsAlike g.tree a))

  -- ---- bottom-up values

  moved : (o p : Option SetKey) → MatchOption o (p ≡ None) (λ key. (other : SetKey)
      × (p ≡ Some other) × ((other.player == 0) ≡ (key.player == 0)) × (d other ≡ c key))
      → (own : Ratio) (ByChance : Ratio → Type 0) (ByChild : ℕ → Ratio → Type 0) (value : Ratio)
      → ValueAt p d own ByChance ByChild value ≡ ValueAt o c own ByChance ByChild value
  moved None p m own ByChance ByChild value = λ i. ValueAt (m i) d own ByChance ByChild value
  moved (Some key) p m own ByChance ByChild value =
      (λ i. ValueAt (m.1 i) d own ByChance ByChild value)
      ∙ (λ i. (below : Ratio) × MatchBool (m.2 i) (ByChance below) (ByChild (m.3 i) below)
      × AddsTo own below value)

  both_alike : (t : Tree Node) (ts : Trees Node) → AreAlike (flatten_all (more t ts))
      → AreAlike (flatten t) × AreAlike (flatten_all ts)
  both_alike t ts = all_parts (λ e. IsAlike e.node) (flatten t) (flatten_all ts)

  mutual
    pub value_alike : (t : Tree Node) (value : Ratio) → AreAlike (flatten t)
        → IsValue h d player (map_tree f t) value ≡ IsValue g c player t value
    value_alike (branch n ts) value a =
        (λ i. ValueAt (f n).set d (a.0.pays i)
        (λ below. chances_alike ts n 1 zero_ratio below a.0 a.1 i)
        (λ position below. child_alike ts position below a.1 i) value)
        ∙ moved n.set (f n).set a.0.moves (payoff_at g player n)
        (IsChanceValue g c player n 1 zero_ratio ts)
        (λ position. IsChildValue g c player position ts) value

    chances_alike : (ts : Trees Node) (n : Node) (k : ℕ) (sum value : Ratio) → IsAlike n
        → AreAlike (flatten_all ts) → IsChanceValue h d player (f n) k sum (map_trees f ts) value
        ≡ IsChanceValue g c player n k sum ts value
    chances_alike none n k sum value a all = refl
    chances_alike (more t ts) n k sum value a all =
        let both = both_alike t ts all in
        λ i. (x : Ratio) × (y : Ratio) × (next : Ratio) × value_alike t x both.0 i
        × MultipliesTo (a.chance k i) x y × AddsTo sum y next
        × chances_alike ts n (k + 1) next value a both.1 i

    child_alike : (ts : Trees Node) (position : ℕ) (value : Ratio) → AreAlike (flatten_all ts)
        → IsChildValue h d player position (map_trees f ts) value
        ≡ IsChildValue g c player position ts value
    child_alike (more t ts) (suc zero) value all = value_alike t value (both_alike t ts all).0
    child_alike (more t ts) (suc (suc position)) value all =
        child_alike ts (suc position) value (both_alike t ts all).1
    child_alike ts position value all = refl

-- ---- a play's moves are the choices

pub chosen_moves : (choices : SetKey → ℕ) (steps : List Step)
    → (list_all (is_chosen choices) steps ≡ true) ↔ AllByRecursion
    (λ s. (key : SetKey) → s.node.set ≡ Some key → 0 < key.player → choices key ≡ s.taken) steps
chosen_moves choices [] = (λ h. tt, λ h. refl)
chosen_moves choices (s ∷ steps) = grind (arith, chosen_moves choices steps)

-- ---- plays of the children of a node

pub in_either : {X : Type 0} (xs ys : List X) (x : X) → Has (xs ++ ys) x → Has xs x ⊎ Has ys x
in_either [] ys x h = inr h
in_either (z ∷ xs) ys x (inl e) = inl (inl e)
in_either (z ∷ xs) ys x (inr h) = elim (in_either xs ys x h) [ inl i ↦ inl (inr i) | inr i ↦ inr i ]

-- the child that it takes has this position or a later one
pub taken_child : (ts : Trees Node) (n : Node) (k : ℕ) (p : Play) → Has (plays_from n k ts) p
    → (j : ℕ) × (below : Play) × (k ≤ j) × (from_node n j below ≡ p)
taken_child none n k p h = absurd h
taken_child (more t ts) n k p h =
    elim (in_either (map (from_node n k) (plays t)) (plays_from n (k + 1) ts) p h) [
      | inl i ↦ let m = mapped_from (from_node n k) (plays t) p i in (k, m.0, omega arith, m.2)
      | inr i ↦ grind (arith, taken_child ts n (k + 1) p i)
    ]

module _ (choices : SetKey → ℕ) where
  abbrev Follows : Play → Type 0
  Follows p = follows choices p ≡ true

  abbrev SameOrPart : Play → Play → Type 0
  SameOrPart p q = (p ≡ q) ⊎ PartAtChance p q

  -- two different children are taken only by chance
  part_here : (n : Node) (key : SetKey) (j k : ℕ) (p q : Play)
      → n.set ≡ Some key → ¬ (j ≡ k) → Follows (from_node n j p) → Follows (from_node n k q)
      → PartAtChance (from_node n j p) (from_node n k q)
  part_here n key j k p q at differ hp hq = record {
    common = [];
    node = n;
    number = key.number;
    chance = grind arith;
    first = j;
    second = k;
    differ = differ;
    first_rest = p.steps;
    second_rest = q.steps;
    first_steps = refl;
    second_steps = refl;
  }

  part_after : (n : Node) (k : ℕ) (p q : Play) → PartAtChance p q
      → PartAtChance (from_node n k p) (from_node n k q)
  part_after n k p q h = record {
    common = record { node = n; taken = k } ∷ h.common;
    node = h.node;
    number = h.number;
    chance = h.chance;
    first = h.first;
    second = h.second;
    differ = h.differ;
    first_rest = h.first_rest;
    second_rest = h.second_rest;
    first_steps = ap (λ steps. record { node = n; taken = k } ∷ steps) h.first_steps;
    second_steps = ap (λ steps. record { node = n; taken = k } ∷ steps) h.second_steps;
  }

  different : (n : Node) (key : SetKey) (j k : ℕ) (below above p q : Play) → n.set ≡ Some key
      → ¬ (j ≡ k) → from_node n j below ≡ p → from_node n k above ≡ q → Follows p → Follows q
      → SameOrPart p q
  different n key j k below above p q at differ ep eq hp hq = grind (arith, part_here)

  module _ (g : Game) where
    mutual
      pub same_or_part : (t : Tree Node) → AllByRecursion (HasChildren g) (flatten t) → (p q : Play)
          → Has (plays t) p → Has (plays t) q → Follows p → Follows q → SameOrPart p q
      same_or_part (branch n none) _ p q i j _ _ = grind arith
      same_or_part (branch n (more t ts)) children p q i j hp hq =
          let set = has_set g n.set (suc (count ts)) (omega arith) children.0 in
          same_or_part_of (more t ts) n 1 set.0 set.1 children.1 p q i j hp hq

      same_or_part_of : (ts : Trees Node) (n : Node) (k : ℕ) (key : SetKey) → n.set ≡ Some key
          → AllByRecursion (HasChildren g) (flatten_all ts) → (p q : Play)
          → Has (plays_from n k ts) p → Has (plays_from n k ts) q → Follows p → Follows q
          → SameOrPart p q
      same_or_part_of none n k key at children p q i j hp hq = absurd i
      same_or_part_of (more t ts) n k key at children p q i j hp hq =
          let both = all_parts (HasChildren g) (flatten t) (flatten_all ts) children in
          let first = map (from_node n k) (plays t) in
          let later = plays_from n (k + 1) ts in
          elim (in_either first later p i) [
            | inl i ↦
                let a = mapped_from (from_node n k) (plays t) p i in
                elim (in_either first later q j) [
                  | inl j ↦
                      let b = mapped_from (from_node n k) (plays t) q j in
                      (grind (arith, part_after, a.2, b.2, same_or_part t both.0 a.0 b.0 a.1 b.1))
                  | inr j ↦
                      let c = taken_child ts n (k + 1) q j in
                      different n key k c.0 a.0 c.1 p q at (λ e. omega (arith, c.2)) a.2 c.3 hp hq
                ]
            | inr i ↦
                elim (in_either first later q j) [
                  | inl j ↦
                      let b = mapped_from (from_node n k) (plays t) q j in
                      let c = taken_child ts n (k + 1) p i in
                      different n key c.0 k c.1 b.0 p q at (λ e. omega (arith, c.2)) c.3 b.2 hp hq
                  | inr j ↦ same_or_part_of ts n (k + 1) key at both.1 p q i j hp hq
                ]
          ]

pub same_or_part_play : (choices : SetKey → ℕ) (g : Game) → IsGame g → (p q : Play)
    → Contains (plays g.tree) p → Contains (plays g.tree) q
    → follows choices p ≡ true → follows choices q ≡ true → (p ≡ q) ⊎ PartAtChance p q
same_or_part_play choices g game p q hp hq = same_or_part choices g g.tree game.children p q
    (has (plays g.tree) p hp) (has (plays g.tree) q hq)

-- nobody is player 0
nothing_paid : (g : Game) (ns : List Node) → total (map (payoff_at g 0) ns) ≡ zero_ratio
nothing_paid g [] = refl
nothing_paid g (n ∷ ns) = λ i. plus (chance_is_paid_nothing g n i) (nothing_paid g ns i)

module _ (g : Game) (game : IsGame g) (spellable : IsSpellable g) (choices : SetKey → ℕ)
    (actions : HasActions g choices) where
  abbrev IsNothing : Option Ratio → Type 0
  IsNothing o = o ≡ Some zero_ratio

  node_nothing : (n : Node) (ts : Trees Node)
      → HasChildren g (record { node = n; children = count ts })
      → IsNothing (chance_value g choices 0 (chances_at g n) 1 (Some zero_ratio) ts)
      → ((position : ℕ) → 1 ≤ position → position ≤ count ts
      → IsNothing (child_value g choices 0 position ts))
      → IsNothing (value g choices 0 (branch n ts))
  node_nothing n ts children chance child =
      grind (arith, chance_is_paid_nothing, plus_zero, zero_fraction, zero_ratio)

  mutual
    nothing : (t : Tree Node) → AllByRecursion (HasChildren g) (flatten t)
        → IsNothing (value g choices 0 t)
    nothing (branch n ts) children =
        node_nothing n ts children.0 (chance_nothing ts n 1 children.1)
        (λ position above within. child_nothing ts position above within children.1)

    chance_nothing : (ts : Trees Node) (n : Node) (k : ℕ)
        → AllByRecursion (HasChildren g) (flatten_all ts)
        → IsNothing (chance_value g choices 0 (chances_at g n) k (Some zero_ratio) ts)
    chance_nothing none n k children = refl
    chance_nothing (more t ts) n k children =
        let both = all_parts (HasChildren g) (flatten t) (flatten_all ts) children in
        let zeros = zeros_weighed (chances_at g n k)
        (probability_fraction g spellable (record { node = n; taken = k })) in
        cc (nothing t both.0, zeros, chance_nothing ts n (k + 1) both.1)

    child_nothing : (ts : Trees Node) (position : ℕ) → 1 ≤ position → position ≤ count ts
        → AllByRecursion (HasChildren g) (flatten_all ts)
        → IsNothing (child_value g choices 0 position ts)
    child_nothing (more t ts) (suc zero) above within children =
        nothing t (all_parts (HasChildren g) (flatten t) (flatten_all ts) children).0
    child_nothing (more t ts) (suc (suc k)) above within children =
        child_nothing ts (suc k) (omega arith) (omega (arith, within))
        (all_parts (HasChildren g) (flatten t) (flatten_all ts) children).1
    child_nothing ts position above within children = absurd (grind arith)

  whole_in : (t : Tree Node) → AllByRecursion (HasChildren g) (flatten t)
      → IsEqual (total (map (play_probability g) (filter (follows choices) (plays t)))) one_ratio
  whole_in t children =
      over (sym (shares_are g choices 0 one_ratio one_ratio (play_probability g)
      (λ p. (λ i. times (once_times (play_probability g p) i)
      (plus one_ratio (nothing_paid g (nodes_of p) i))) ∙ times_once (play_probability g p))
      (plays t)))
      (tree_pays g choices 0 game spellable t zero_ratio children
      ((value_is g spellable choices 0 t zero_ratio).1 (nothing t children)) one_ratio one_ratio
      (omega arith) (omega arith)) refl

  pub whole : IsEqual (total (map (play_probability g)
      (filter (follows choices) (plays g.tree)))) one_ratio
  whole = whole_in g.tree game.children

  -- what is not empty has a play in it
  first_of : (ps : List Play) → IsEqual (total (map (play_probability g) ps)) one_ratio
      → (play : Play) × Has ps play
  first_of [] h = grind arith
  first_of (p ∷ ps) h = (p, inl refl)

  pub some_play_in : (t : Tree Node) → AllByRecursion (HasChildren g) (flatten t)
      → (play : Play) × Has (plays t) play × (follows choices play ≡ true)
  some_play_in t children = grind (arith, first_of, whole_in, of_filter)

  pub some_play : (play : Play) × Contains (plays g.tree) play × (follows choices play ≡ true)
  some_play = grind (arith, some_play_in, contains)

pub ruleset followed_plays = (chosen_moves, some_play, whole, same_or_part_play)
