-- A set is relevant exactly when the choices come to it in the tree. So all sets are relevant of a
-- player with one strategy, who has one action at each. And strategies that agree with the same
-- plays reduce to the same one.
use Rattle.gf_form.proofs.Common
use Common.{and-or_distrib_left, Any-from_list_any, eq-one_of_dvd-one, filter_map-append, Contains}
use Common.{same_set_equality, sets_by_first_use, list_any-append, AllByRecursion, InformationSet}
use Common.{reduced_labels, strategy_label, action_counts, dvd-mul_right, if◌then◌else◌, all_parts}
use Common.{is_own_choice, option_map_or, reduced_label, relevant_sets, visit_handing, AreFirstsOf}
use Common.{dvd-mul_left, HasChildren, IsSpellable, MatchOption, all_choices, descent_all, descent}
use Common.{flatten_all, is_relevant, mapped_from, player_keys, HasActions, cases_Bool, false≢true}
use Common.{filter_map, get_or-map, length-map, option_map, plays_from, strategies, and_parts, Has}
use Common.{choice_at, from_node, is_chosen, of_filter, used_sets, and_from, choosing, comes_to, ℕ}
use Common.{contains, eqb-true, in_right, list_all, list_any, map_same, same_set, was_used, IsGame}
use Common.{flatten, has_map, in_left, product, reduced, stop_at, Listed, Option, SetKey, agrees}
use Common.{branch, get_or, length, set_at, Trees, arith, count, false, plays, subst, Bool, Game}
use Common.{List, Node, None, Play, Some, Step, Stop, Tree, more, none, refl, true, ◌&&◌, ◌==◌, []}
use Common.{has, inl, inr, map, suc, sym, ◌*◌, ◌+◌, ◌<◌, ◌∙◌, ◌∷◌, ◌≡◌, ◌≤◌, ap}
use Rattle.gf_form.proofs.lemmas.rows.Descents.{set_there}
use Rattle.gf_form.proofs.lemmas.rows.GameDigits.{said_there, among_own}
use Rattle.gf_form.proofs.lemmas.strategies.Chosen.{keys_distinct, own_set, set_is, there}
use Rattle.gf_form.proofs.lemmas.reduced.Reducing.{first_play, is_chance, own_right, any_has}
use Rattle.gf_form.proofs.lemmas.strategies.CountedActions.{sets_counted}
use Rattle.gf_form.proofs.lemmas.strategies.Chosen.{his_actions}
use Rattle.gf_form.proofs.lemmas.reduced.FirstStrategies.{reduced_shown_at, flags_fit}
use Rattle.gf_form.proofs.lemmas.strategies.StrategiesByNumber.{whole_label}
use Rattle.gf_form.proofs.lemmas.values.Plays.{some_play_in, taken_child, in_either}

-- the nodes of a tree that a walk meets by these choices of a player
abbrev pub met_nodes : Game → (SetKey → ℕ) → ℕ → Tree Node → List (Stop ℕ)
met_nodes g choices player t =
    descent g (choosing visit_handing g (λ own. own.player == player) choices) 0 t

some_child : (g : Game) → IsGame g → (own : SetKey) (m : ℕ) → option_map (λ set. length set.actions)
    (set_at g own) ≡ Some m → 0 < m
some_child g game own m c =
    let set = set_there g own m c in
    omega (arith, set.2, (set_is g game own set.0 set.1).some_action)

module _ (g : Game) (game : IsGame g) (choices : SetKey → ℕ) (player : ℕ) (key : SetKey)
    (his : key.player ≡ player) where
  -- some of these plays comes to the set so
  abbrev come : List Play → Bool
  come ps = list_any (λ p. comes_to choices key p.steps) ps

  abbrev is_here : Node → Bool
  is_here n = option_map_or (same_set key) n.set false

  abbrev enters : Node → SetKey → ℕ → ℕ → ℕ → Option ℕ
  enters = choosing visit_handing g (λ own. own.player == player) choices

  -- if the node belongs to the set, each play through it comes there
  any_here : (n : Node) (k : ℕ) (t : Tree Node) → is_here n ≡ true
      → come (map (from_node n k) (plays t)) ≡ true
  any_here n k t here =
      let p = first_play t in
      let there = has_map (from_node n k) (plays t) p.0 p.1 in
      grind (arith, any_has)

  -- and elsewhere those that go on as its owner chooses
  any_below : (n : Node) (k : ℕ) (ps : List Play) → is_here n ≡ false
      → come (map (from_node n k) ps)
      ≡ (is_own_choice choices key.player (record { node = n; taken = k }) && come ps)
  any_below n k [] other = grind arith
  any_below n k (p ∷ ps) other = grind (arith, any_below n k ps other, and-or_distrib_left)

  module _ (test : Stop ℕ → Bool) (tells : (n : Node) → test (stop_at g n 0) ≡ is_here n) where
    node_comes_by : (n : Node) (ts : Trees Node) (o : Option SetKey)
        (beneath : SetKey → List (Stop ℕ)) → n.set ≡ o → MatchOption o (count ts ≡ 0)
        (λ own. option_map (λ set. length set.actions) (set_at g own) ≡ Some (count ts))
        → ((own : SetKey) → n.set ≡ Some own → is_here n ≡ false
        → come (plays_from n 1 ts) ≡ list_any test (beneath own))
        → come (plays (branch n ts))
        ≡ list_any test (stop_at g n 0 ∷ option_map_or beneath o [])
    node_comes_by n ts o beneath at c below = grind (arith, some_child, list_any-append, any_here)

    mutual
      comes_in : (t : Tree Node) → AllByRecursion (HasChildren g) (flatten t)
          → come (plays t) ≡ list_any test (descent g enters 0 t)
      comes_in (branch n ts) children = node_comes_by n ts n.set _ refl children.0
          (λ own at other. come_in ts n own (count ts) 1 children.1 at other)

      come_in : (ts : Trees Node) (n : Node) (own : SetKey) (m k : ℕ)
          → AllByRecursion (HasChildren g) (flatten_all ts) → n.set ≡ Some own → is_here n ≡ false
          → come (plays_from n k ts) ≡ list_any test (descent_all g enters (enters n own m 0) k ts)
      come_in none n own m k children at other = refl
      come_in (more t ts) n own m k children at other =
          let both = all_parts (HasChildren g) (flatten t) (flatten_all ts) children in
          let first = comes_in t both.0 in
          let later = come_in ts n own m (k + 1) both.1 at other in
          grind (arith, list_any-append, any_below n k (plays t) other, his)

    pub relevant_is : is_relevant g choices key ≡ list_any test (met_nodes g choices player g.tree)
    relevant_is = comes_in g.tree game.children

  -- if its owner has one action at each of their sets, they come there wherever it is used
  module _ (one : (own : SetKey) (set : InformationSet) → own.player ≡ player
      → set_at g own ≡ Some set → (length set.actions ≡ 1) × (choices own ≡ 1)) where
    abbrev is_used : List (Listed Node) → Bool
    is_used es = list_any (same_set key) (filter_map (λ e. e.node.set) es)

    his_move : (n : Node) (own : SetKey) (m k : ℕ) → n.set ≡ Some own
        → option_map (λ set. length set.actions) (set_at g own) ≡ Some m → 1 ≤ k → k ≤ m
        → is_own_choice choices key.player (record { node = n; taken = k }) ≡ true
    his_move n own m k at known above within = grind (arith, eqb-true, his)

    node_where : (n : Node) (ts : Trees Node) (o : Option SetKey) → n.set ≡ o
        → MatchOption o (count ts ≡ 0)
        (λ own. option_map (λ set. length set.actions) (set_at g own) ≡ Some (count ts))
        → ((own : SetKey) → n.set ≡ Some own
        → option_map (λ set. length set.actions) (set_at g own) ≡ Some (count ts)
        → is_here n ≡ false → come (plays_from n 1 ts) ≡ is_used (flatten_all ts))
        → come (plays (branch n ts)) ≡ is_used (flatten (branch n ts))
    node_where n ts o at c below = grind (arith, some_child, list_any-append, any_here)

    mutual
      comes_where : (t : Tree Node) → AllByRecursion (HasChildren g) (flatten t)
          → come (plays t) ≡ is_used (flatten t)
      comes_where (branch n ts) children = node_where n ts n.set refl children.0 (λ own at c other.
          come_where ts n own (count ts) 1 children.1 at c other (omega arith) (omega arith))

      come_where : (ts : Trees Node) (n : Node) (own : SetKey) (m k : ℕ)
          → AllByRecursion (HasChildren g) (flatten_all ts) → n.set ≡ Some own
          → option_map (λ set. length set.actions) (set_at g own) ≡ Some m → is_here n ≡ false
          → 1 ≤ k → k + count ts ≤ 1 + m → come (plays_from n k ts) ≡ is_used (flatten_all ts)
      come_where none n own m k children at known other above within = refl
      come_where (more t ts) n own m k children at known other above within =
          let both = all_parts (HasChildren g) (flatten t) (flatten_all ts) children in
          let move = his_move n own m k at known above (omega (arith, within)) in
          let first = comes_where t both.0 in
          let later = come_where ts n own m (k + 1) both.1 at known other (omega arith)
          (omega (arith, within)) in
          grind (arith, list_any-append, filter_map-append, any_below n k (plays t) other)

-- ---- the only strategy

one_factor : (a b : ℕ) → a * b ≡ 1 → (a ≡ 1) × (b ≡ 1)
one_factor a b e = grind (arith, eq-one_of_dvd-one, dvd-mul_right, dvd-mul_left)

all_one : (counts : List ℕ) (i : ℕ) → product counts ≡ 1 → i < length counts → get_or counts i 0 ≡ 1
all_one (n ∷ counts) (suc i) e less =
    all_one counts i (one_factor n (product counts) e).1 (omega (arith, less))
all_one counts i e less = grind (arith, one_factor)

-- it has the number of actions at each set
only_choice : (counts : List ℕ) → product counts ≡ 1 → all_choices counts ≡ counts ∷ []
only_choice [] e = refl
only_choice (n ∷ counts) e =
    let one = one_factor n (product counts) e in rw (one.0, only_choice counts one.1)

module _ (g : Game) (game : IsGame g) (player : ℕ)
    (one : product (action_counts g player) ≡ 1) where
  abbrev only : List ℕ
  only = action_counts g player

  alone : strategies g player ≡ only ∷ []
  alone = only_choice only one

  used : (key : SetKey) → Has (player_keys g player) key → Has (used_sets g.tree) key
  used key i = grind (arith, of_filter, was_used, sets_by_first_use)

  his_one : (own : SetKey) (set : InformationSet) → own.player ≡ player → set_at g own ≡ Some set
      → (length set.actions ≡ 1) × (choice_at (player_keys g player) only own ≡ 1)
  his_one own set same known =
      let place = among_own g player own set same known in
      let actions = all_one (action_counts g player) place.place one in
      grind (arith, length-map, said_there, keys_distinct)

  all_relevant : (key : SetKey) → Has (player_keys g player) key
      → is_relevant g (choice_at (player_keys g player) only) key ≡ true
  all_relevant key i =
      comes_where g game (choice_at (player_keys g player) only) player key
      (own_set g player key i).3 his_one g.tree game.children
      ∙ any_has (same_set key) (used_sets g.tree) key (used key i)
      ((same_set_equality key key).1 refl)

  only_shown : reduced_label (reduced g player only) ≡ strategy_label only
  only_shown =
      let some : 0 < length (strategies g player) = omega (arith, ap length alone) in
      let keys = player_keys g player in
      let fit = rw alone at (flags_fit g game player 0 some) in
      ap reduced_label (rw alone at (reduced_shown_at g game player 0 some))
      ∙ whole_label (relevant_sets g player only) only fit (λ k less.
      let within : k < length keys = omega (arith, less, sets_counted g player) in
      let none : SetKey = record { player = 0; number = 0 } in
      get_or-map (is_relevant g (choice_at keys only)) keys k none false within
      ∙ all_relevant (get_or keys k none) (there keys k none within))

  pub only_first : AreFirstsOf g (0 ∷ []) player
  only_first = rw alone (refl, (omega arith, tt))

  pub only_label : map strategy_label (all_choices (action_counts g player)) ≡ reduced_labels g
      player
  only_label = rw alone (λ i. sym only_shown i ∷ [])

-- ---- a choice for everybody

module _ (g : Game) (game : IsGame g) (spellable : IsSpellable g) (player : ℕ) (above : 0 < player)
    (strategy : List ℕ) (his : Contains (strategies g player) strategy) where
  abbrev c : SetKey → ℕ
  c key = choice_at (player_keys g player) strategy key

  -- the player's by their strategy, and the first action at any other set
  abbrev everybody : SetKey → ℕ
  everybody key = if key.player == player then c key else 1

  everybody_acts : HasActions g everybody
  everybody_acts key set is some = elim (cases_Bool (key.player == player)) [
    | inl his_key ↦
        let own : key.player ≡ player = eqb-true key.player player his_key in
        let acts = his_actions g game strategy key set
        (subst (λ (p : ℕ). Contains (strategies g p) strategy) (sym own) his) is in
        rw his_key (subst (λ (p : ℕ). (1 ≤ choice_at (player_keys g p) strategy key)
        × (choice_at (player_keys g p) strategy key ≤ length set.actions)) own acts)
    | inr other ↦ rw other (omega arith, (set_is g game key set is).some_action)
  ]

  steps_own : (steps : List Step) → list_all (is_chosen everybody) steps ≡ true
      → list_all (is_own_choice c player) steps ≡ true
  steps_own (s ∷ steps) h = grind (arith, steps_own steps, is_chance, own_right)
  steps_own [] h = refl

  abbrev Agrees : Play → Type 0
  Agrees p = agrees c player p ≡ true

  some_agrees : (t : Tree Node) → AllByRecursion (HasChildren g) (flatten t)
      → (p : Play) × Has (plays t) p × Agrees p
  some_agrees t children =
      grind (arith, steps_own, some_play_in g game spellable everybody everybody_acts t children)

  -- ---- a play that comes to a set, on from there by the strategy

  module _ (key : SetKey) (own : key.player ≡ player) where
    abbrev Comes : Play → Type 0
    Comes p = comes_to c key p.steps ≡ true

    abbrev Goes : List Play → Type 0
    Goes ps = (p : Play) × Has ps p × Agrees p × Comes p

    mutual
      goes_on : (t : Tree Node) → AllByRecursion (HasChildren g) (flatten t) → (p : Play)
          → Has (plays t) p → Comes p → Goes (plays t)
      goes_on (branch n none) children p (inl e) comes =
          absurd (false≢true (subst Comes (sym e) comes))
      goes_on (branch n none) children p (inr i) comes = absurd i
      goes_on (branch n (more t ts)) children p i comes =
          elim (cases_Bool (option_map_or (same_set key) n.set false)) [
            | inl here ↦
                let one = some_agrees (branch n (more t ts)) children in
                let child = taken_child (more t ts) n 1 one.0 one.1 in
                (one.0, one.1, one.2, subst Comes child.3 (grind arith))
            | inr other ↦
                goes_on_in (more t ts) n 1 children.1 other p i comes
          ]

      goes_on_in : (ts : Trees Node) (n : Node) (k : ℕ)
          → AllByRecursion (HasChildren g) (flatten_all ts)
          → option_map_or (same_set key) n.set false ≡ false → (p : Play)
          → Has (plays_from n k ts) p → Comes p → Goes (plays_from n k ts)
      goes_on_in none n k children other p i comes = absurd i
      goes_on_in (more t ts) n k children other p i comes =
          let both = all_parts (HasChildren g) (flatten t) (flatten_all ts) children in
          elim (in_either (map (from_node n k) (plays t)) (plays_from n (k + 1) ts) p i) [
            | inl here ↦
                let below = mapped_from (from_node n k) (plays t) p here in
                let step : Step = record { node = n; taken = k } in
                let move = and_parts (is_own_choice c key.player step)
                (comes_to c key below.0.steps) (rw other at (subst Comes (sym below.2) comes)) in
                let one = goes_on t both.0 below.0 below.1 move.1 in (
                  from_node n k one.0,
                  in_left (map (from_node n k) (plays t)) (plays_from n (k + 1) ts)
                      (from_node n k one.0) (has_map (from_node n k) (plays t) one.0 one.1),
                  and_from _ _ (subst (λ (q : ℕ). is_own_choice c q step ≡ true) own move.0) one.2,
                  rw other (and_from _ _ move.0 one.3),
                )
            | inr later ↦
                let one = goes_on_in ts n (k + 1) both.1 other p later comes in (
                  one.0,
                  in_right (map (from_node n k) (plays t)) (plays_from n (k + 1) ts) one.0 one.1,
                  one.2,
                  one.3,
                )
          ]

    pub passing_play : is_relevant g c key ≡ true → Goes (plays g.tree)
    passing_play relevant =
        let one = Any-from_list_any (λ p. comes_to c key p.steps) (plays g.tree) relevant in
        goes_on g.tree game.children one.1 (has (plays g.tree) one.1 (one.0, one.2, one.3)) one.4

-- ---- strategies that agree with the same plays

-- if two agree with a play that comes to a set by one of them, both come there, and choose alike
come_both : (player : ℕ) (d e : SetKey → ℕ) (key : SetKey) → key.player ≡ player
    → (steps : List Step) → list_all (is_own_choice d player) steps ≡ true
    → list_all (is_own_choice e player) steps ≡ true → comes_to d key steps ≡ true
    → (comes_to e key steps ≡ true) × (d key ≡ e key)
come_both player d e key own [] hd he h = absurd (false≢true h)
come_both player d e key own (s ∷ steps) hd he h =
    let dd = and_parts (is_own_choice d player s) (list_all (is_own_choice d player) steps) hd in
    let ee = and_parts (is_own_choice e player s) (list_all (is_own_choice e player) steps) he in
    elim (cases_Bool (option_map_or (same_set key) s.node.set false)) [
      | inl here ↦ grind (arith, same_set_equality)
      | inr other ↦
          let later = come_both player d e key own steps dd.1 ee.1 (grind arith) in
          grind arith
    ]

module _ (g : Game) (game : IsGame g) (spellable : IsSpellable g) (player : ℕ)
    (above : 0 < player) where
  abbrev chosen : List ℕ → SetKey → ℕ
  chosen strategy key = choice_at (player_keys g player) strategy key

  abbrev AgreeAlike : List ℕ → List ℕ → Type 0
  AgreeAlike s t = (play : Play) → Contains (plays g.tree) play
      → agrees (chosen s) player play ≡ agrees (chosen t) player play

  pub agree_reduced : (s t : List ℕ) → Contains (strategies g player) s
      → Contains (strategies g player) t → AgreeAlike s t → reduced g player s ≡ reduced g player t
  agree_reduced s t hs ht alike =
      map_same
      (λ key. if is_relevant g (chosen s) key then Some (chosen s key) else None)
      (λ key. if is_relevant g (chosen t) key then Some (chosen t key) else None)
      (player_keys g player)
      (grind (arith, passing_play, come_both, contains, any_has, own_set))
