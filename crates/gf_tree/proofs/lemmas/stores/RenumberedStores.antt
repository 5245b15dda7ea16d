-- Sets and outcomes that are known, renumbered one after another.
use Rattle.gf_tree.proofs.Common
use Common.{get_or_from_slice_get, position_from-zero, false_from_ne_true, slice_get_within, length}
use Common.{outcome_numbers, AllByRecursion, InformationSet, listed_numbers, slice_get-map, Outcome}
use Common.{position_from, used_outcomes, number_listed, number_among, MatchOption, Decides-eqb, []}
use Common.{player_keys, Renumbering, option_map, renumbered, get_or-map, slice_get, same_Some, ◌≡◌}
use Common.{Described, used_sets, AreListed, position, same_set, known_of, take-map, sets_of, false}
use Common.{get_or, SetKey, set_of, IsGame, Global, nat_eq, subst, arith, Bool, true, List, ℕ}
use Common.{◌++◌, take, Some, None, refl, ◌==◌, Game, suc, ◌+◌, ◌-◌, ◌<◌, ◌≤◌, ◌^◌, ◌∷◌, map, inl}
use Common.{inr, sym, ◌∙◌, Vec, ap}
use Rattle.std.specs.Prelude.{⊤}
use Rattle.std.proofs.Math.Seq.{take-suc}
use Rattle.gf_tree.proofs.lemmas.games.Carried.{entry_used}
use Rattle.gf_tree.proofs.lemmas.stores.RenumberedKept.{outcome_image, set_image}
use Rattle.gf_tree.proofs.lemmas.games.ListedNumbers.{some_player, as_long, listed_is_renumbering}
use Rattle.gf_tree.proofs.lemmas.games.ListedNumbers.{number_there}
use Rattle.gf_tree.proofs.lemmas.games.PlayerSets.{sets_by_first_use}
use Rattle.gf_tree.proofs.lemmas.games.Renumbered.{renumbered_is_game}
use Rattle.gf_tree.proofs.lemmas.games.TreesOnce.{same_set_equality}
use Rattle.gf_tree.proofs.lemmas.games.Uses.{Has, IsEquality}
use Rattle.gf_tree.proofs.lemmas.games.FirstUses.{AreDistinct, first_uses_distinct}
use Rattle.gf_tree.proofs.lemmas.games.Members.{all_more, has_at, something_there}

-- ---- a key that has not stood yet

absent_from : {K : Type 0} (same : K → K → Bool) → IsEquality same → (key : K) (ks : List K)
    (start : ℕ) → (Has ks key → ⊥) → position_from (same key) start ks ≡ None
absent_from same tells key [] start h = refl
absent_from same tells key (k ∷ ks) start h =
    grind (arith, absent_from same tells key ks (start + 1) (λ m. h (inr m)), false_from_ne_true)

pub absent : {K : Type 0} (same : K → K → Bool) → IsEquality same → (key : K) (ks : List K)
    → (Has ks key → ⊥) → position (same key) ks ≡ None
absent same tells key ks h = position_from-zero (same key) ks ∙ absent_from same tells key ks 0 h

not_yet : {K : Type 0} (ks : List K) (place : ℕ) (key : K) → AreDistinct ks
    → slice_get ks place ≡ Some key → Has (take place ks) key → ⊥
not_yet (k ∷ ks) (suc place) key d h (inl e) = d.0 (subst (Has ks) (sym e) (has_at ks place key h))
not_yet (k ∷ ks) (suc place) key d h (inr m) = not_yet ks place key d.1 h m
not_yet ks place key d h i = grind arith

-- the key of the next entry has not stood before it
pub next_absent : {K D : Type 0} (same : K → K → Bool) → IsEquality same
    → (es : List (Described K D)) (place : ℕ) (e : Described K D)
    → AreDistinct (map (λ e. e.key) es) → slice_get es place ≡ Some e
    → position (same e.key) (map (λ e. e.key) (take place es)) ≡ None
next_absent {K} {D} same tells es place e d h =
    let key : slice_get (map (λ (e : Described K D). e.key) es) place ≡ Some e.key =
    cc (slice_get-map (λ (e : Described K D). e.key) es place) in
    rw (← take-map (λ (e : Described K D). e.key) place es)
    (absent same tells e.key (take place (map (λ e. e.key) es))
    (not_yet (map (λ e. e.key) es) place e.key d key))

-- ---- one more entry

pub taken : {X : Type 0} (xs : List X) (place : ℕ) (x : X) → slice_get xs place ≡ Some x
    → take (place + 1) xs ≡ take place xs ++ x ∷ []
taken xs place x h =
    let next : place + 1 ≡ suc place = omega arith in
    rw next (take-suc xs place x (slice_get_within xs place x h)
    ∙ ap (λ y. take place xs ++ y ∷ []) (get_or_from_slice_get xs place x x h))

-- ---- a set's number among those of its player

-- the entries of a player through this one are one more than the place of this one among all of
-- theirs
pub record IsAmong (known : List (Described SetKey InformationSet)) (place player : ℕ)
    (s : Described SetKey InformationSet) : Type 0 where
  pub before : ℕ
  pub counted : length (known_of player (take (suc place) known)) ≡ suc before
  pub stands : slice_get (known_of player known) before ≡ Some s

among_more : (t : Described SetKey InformationSet) (known : List (Described SetKey InformationSet))
    (place player : ℕ) (s : Described SetKey InformationSet) → IsAmong known place player s
    → (b : Bool) → (t.key.player == player) ≡ b → IsAmong (t ∷ known) (suc place) player s
among_more t known place player s r true q =
    record { before = suc r.before; counted = rw q (ap suc r.counted); stands = rw q r.stands }
among_more t known place player s r false q = grind arith

pub is_among : (known : List (Described SetKey InformationSet)) (place player : ℕ)
    (s : Described SetKey InformationSet)
    → slice_get known place ≡ Some s → s.key.player ≡ player → IsAmong known place player s
is_among (t ∷ known) (suc place) player s h e = among_more t known place player s
    (is_among known place player s h e) (t.key.player == player) refl
is_among known place player s h e = grind arith

-- ---- the numbers of sets, one after another

module _ (g : Game) (game : IsGame g) (lists : List (List ℕ)) (outcomes : List ℕ)
    (listed : AreListed g lists outcomes) where
  abbrev own : Described SetKey InformationSet → List ℕ
  own s = get_or lists s.key.player []

  pub record IsListedAt (place n : ℕ) : Type 0 where
    pub set : Described SetKey InformationSet
    pub stands : slice_get g.sets place ≡ Some set
    pub positive : 1 ≤ n
    pub player : set.key.player < length lists
    pub within : n - 1 < length (get_or lists set.key.player [])
    pub number : slice_get (get_or lists set.key.player []) (n - 1)
        ≡ Some (number_listed same_set (player_keys g set.key.player)
        (get_or lists set.key.player [])
        set.key)

  key_used : (place : ℕ) (s : Described SetKey InformationSet) → slice_get g.sets place ≡ Some s
      → Has (used_sets g.tree) s.key
  key_used place s h = entry_used same_set (used_sets g.tree) g.sets s game.one_entry_each_set
      (has_at g.sets place s h)

  pub listed_at : (place n : ℕ) → place < length g.sets → number_among g.sets place ≡ Some n
      → IsListedAt place n
  listed_at place n h e =
      let t = something_there g.sets place h in
      let s = t.0 in
      let player = s.key.player in
      let counted : Some (length (known_of player (take (place + 1) g.sets))) ≡ Some n = rw t.1 at
      e in
      let next : place + 1 ≡ suc place = omega arith in
      let counted' : length (known_of player (take (suc place) g.sets)) ≡ n =
      ap (λ k. length (known_of player (take k g.sets))) (sym next) ∙ same_Some _ _ counted in
      let a = is_among g.sets place player s t.1 refl in
      let among : n ≡ suc a.before = sym counted' ∙ a.counted in
      let before : n - 1 ≡ a.before = omega (arith, among) in
      let key : slice_get (player_keys g player) a.before ≡ Some s.key =
      slice_get-map (λ (x : Described SetKey InformationSet). x.key) (known_of player g.sets)
      a.before ∙ ap (option_map (λ (x : Described SetKey InformationSet). x.key)) a.stands in
      let used = key_used place s t.1 in
      let long = as_long g game lists outcomes listed s.key used in
      let distinct : AreDistinct (player_keys g player) =
      subst AreDistinct (sym (sets_by_first_use g player game))
      (first_uses_distinct same_set same_set_equality (sets_of player (used_sets g.tree))) in
      let number = number_there same_set same_set_equality (player_keys g player) (own s) a.before
      s.key long distinct key in
      record {
        set = s;
        stands = t.1;
        positive = omega (arith, among);
        player = grind (arith, some_player);
        within = rw before (slice_get_within (own s) a.before _ number);
        number = rw before number;
      }

  -- what is found at a place by the number of its set among those of its player
  pub record IsFound (place n : ℕ) (items : List ℕ) : Type 0 where
    pub positive : 1 ≤ n
    pub within : n - 1 < length items
    pub number : (x : ℕ) → x ≡ get_or items (n - 1) x → MatchOption (slice_get g.sets place) ⊤ (λ s.
        x
        ≡ number_listed same_set (player_keys g s.key.player) (get_or lists s.key.player []) s.key)

  pub found_in : (known : List (Described SetKey InformationSet))
      (place n player number : ℕ) (items : List ℕ) → known ≡ g.sets → place < length g.sets
      → option_map (λ s. s.key) (slice_get known place) ≡ Some (set_of player number)
      → number_among known place ≡ Some n
      → (player < length lists → items ≡ get_or lists player []) → IsFound place n items
  found_in known place n player number items e h k a own_is =
      let r = listed_at place n h
      (ap (λ (ss : List (Described SetKey InformationSet)). number_among ss place) (sym e) ∙ a) in
      let items_are : items ≡ get_or lists r.set.key.player [] = grind arith in
      record {
        positive = r.positive;
        within = rw items_are r.within;
        number = λ x q. rw r.stands (cc (get_or_from_slice_get (own r.set) (n - 1) _ x r.number));
      }

  abbrev by_list : Renumbering
  by_list = listed_numbers g lists outcomes

  distinct_sets : AreDistinct (map (λ s. s.key) (renumbered by_list g).sets)
  distinct_sets =
      let h =
      renumbered_is_game g by_list game (listed_is_renumbering g game lists outcomes listed) in
      subst AreDistinct (sym h.one_entry_each_set)
      (first_uses_distinct same_set same_set_equality (used_sets (renumbered by_list g).tree))

  image_there : (place : ℕ) (s : Described SetKey InformationSet) → slice_get g.sets place ≡ Some s
      → slice_get (renumbered by_list g).sets place ≡ Some (set_image by_list s)
  image_there place s h = slice_get-map (set_image by_list) g.sets place
      ∙ ap (option_map (set_image by_list)) h

  pub set_absent : (from now : List (Described SetKey InformationSet)) (place number : ℕ)
      → from ≡ g.sets → now ≡ take place (renumbered by_list g).sets → place < length g.sets
      → MatchOption (slice_get g.sets place) ⊤ (λ s. number ≡ by_list.set s.key.player s.key.number)
      → MatchOption (slice_get from place) ⊤
      (λ s. position (same_set (set_of s.key.player number)) (map (λ t. t.key) now) ≡ None)
  set_absent from now place number e f h m =
      let t = something_there g.sets place h in
      let is : number ≡ by_list.set t.0.key.player t.0.key.number = rw t.1 at m in
      rw (e, t.1, f, is) (next_absent same_set same_set_equality (renumbered by_list g).sets place
      (set_image by_list t.0) distinct_sets (image_there place t.0 t.1))

  pub set_added : (from now new : List (Described SetKey InformationSet)) (place number : ℕ)
      → from ≡ g.sets → now ≡ take place (renumbered by_list g).sets
      → place < length g.sets → number < 2 ^ 32
      → MatchOption (slice_get g.sets place) ⊤ (λ s. number ≡ by_list.set s.key.player s.key.number)
      → AllByRecursion (λ s. s.key.number < 2 ^ 32) now → MatchOption (slice_get from place) ⊤ (λ s.
      new ≡ now ++ record { key = set_of s.key.player number; description = s.description } ∷ [])
      → (new ≡ take (place + 1) (renumbered by_list g).sets)
      × AllByRecursion (λ s. s.key.number < 2 ^ 32) new
  set_added from now new place number e f h small m all added =
      let t = something_there g.sets place h in
      let is : number ≡ by_list.set t.0.key.player t.0.key.number = rw t.1 at m in
      let entry : ℕ → Described SetKey InformationSet =
      λ n. record { key = set_of t.0.key.player n; description = t.0.description } in
      let one : new ≡ now ++ entry number ∷ [] = rw (e, t.1) at added in
      let there = image_there place t.0 t.1 in
      let more = taken (renumbered by_list g).sets place (set_image by_list t.0) there in (
        one ∙ (λ i. f i ++ entry (is i) ∷ []) ∙ sym more,
        rw one (all_more (λ s. s.key.number < 2 ^ 32) now (entry number) all small),
      )

  -- ---- the numbers of outcomes, one after another

  distinct_keys : AreDistinct (outcome_numbers g)
  distinct_keys = subst AreDistinct (sym game.one_entry_each_outcome)
      (first_uses_distinct nat_eq Decides-eqb (used_outcomes g.tree))

  distinct_outcomes : AreDistinct (map (λ o. o.key) (renumbered by_list g).outcomes)
  distinct_outcomes =
      let h = renumbered_is_game g by_list game
      (listed_is_renumbering g game lists outcomes listed) in
      subst AreDistinct (sym h.one_entry_each_outcome)
      (first_uses_distinct nat_eq Decides-eqb (used_outcomes (renumbered by_list g).tree))

  listed_outcome : (place number : ℕ) (o : Described ℕ Outcome)
      → slice_get g.outcomes place ≡ Some o → slice_get outcomes place ≡ Some number
      → number ≡ by_list.outcome o.key
  listed_outcome place number o h e =
      grind (arith, slice_get-map, same_Some, number_there, distinct_keys)

  pub outcome_absent : (now : List (Described ℕ Outcome)) (place number : ℕ)
      → now ≡ take place (renumbered by_list g).outcomes
      → place < length g.outcomes → slice_get outcomes place ≡ Some number
      → position (nat_eq number) (map (λ t. t.key) now) ≡ None
  outcome_absent now place number f h m =
      let t = something_there g.outcomes place h in
      let is = listed_outcome place number t.0 t.1 m in
      rw (f, is) (next_absent nat_eq Decides-eqb (renumbered by_list g).outcomes place
      (outcome_image by_list t.0) distinct_outcomes (cc (slice_get-map (outcome_image by_list) g.outcomes place)))

  pub outcome_added : (from now new : List (Described ℕ Outcome)) (place number : ℕ)
      → from ≡ g.outcomes → now ≡ take place (renumbered by_list g).outcomes
      → place < length g.outcomes → number < 2 ^ 32 → slice_get outcomes place ≡ Some number
      → AllByRecursion (λ o. o.key < 2 ^ 32) now → MatchOption (slice_get from place) ⊤
      (λ o. new ≡ now ++ record { key = number; description = o.description } ∷ [])
      → (new ≡ take (place + 1) (renumbered by_list g).outcomes)
      × AllByRecursion (λ o. o.key < 2 ^ 32) new
  outcome_added from now new place number e f h small m all added =
      let t = something_there g.outcomes place h in
      let is = listed_outcome place number t.0 t.1 m in
      let one : new ≡ now ++ record { key = number; description = t.0.description } ∷ [] =
      rw (e, t.1) at added in
      let more = taken (renumbered by_list g).outcomes place (outcome_image by_list t.0)
      (cc (slice_get-map (outcome_image by_list) g.outcomes place)) in (
        one ∙ (λ i. f i ++ record { key = is i; description = t.0.description } ∷ []) ∙ sym more,
        rw one (all_more (λ (o : Described ℕ Outcome). o.key < 2 ^ 32) now _ all small),
      )

-- ---- lists of lists

pub own_items : (vs : List (Vec ℕ Global)) (player : ℕ) (v : Vec ℕ Global) → v ≡ get_or vs player v
    → player < length vs → v.items ≡ get_or (map (λ own. own.items) vs) player []
own_items vs player v e h = cc (get_or-map (λ (own : Vec ℕ Global). own.items) vs player v [] h)
