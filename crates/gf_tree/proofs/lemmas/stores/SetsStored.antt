-- What is stored of sets, and what it says about those that are known.
use Rattle.gf_tree.proofs.lemmas.games.Members.{all_more}
use Rattle.gf_tree.proofs.lemmas.stores.Stretching.{up_to}
use Rattle.gf_tree.proofs.Common
use Common.{AllByRecursion, AreSets, AreStretches, Described, HoldActions, InformationSet, KnownSets}
use Common.{slice_get_within, SetKey, ◌++◌, ◌+◌, ◌<◌, ◌==◌, ◌^◌, ◌∙◌, ◌∷◌, ◌≡◌, ◌≢◌, ◌≤◌, List, None, Some}
use Common.{[], action_of}
use Common.{actions_of, ap, arith, append-nil, described, drop, drop-append-le, drop_of_length-le}
use Common.{end_of, eq-eqb, eqb-false, eqb-true, filter-append, get_or, known_of, label_of, length}
use Common.{length-take-le, map, map-append, max, number_among, position, position_from}
use Common.{position_from-zero, refl, same_set, set_of, slice_get, slice_range, stored_sets, sym, take}
use Common.{take-append-le, take_all, with_pending_set, ℕ, suc, length-map, subst, if◌then◌else◌, Option, Bool, false}
use Rattle.std.proofs.Common.{length-append, ◌&&◌}
use Rattle.std.specs.Map.{keys_of}
use Rattle.gf_tree.specs.declared.game.action.Action.{Action as Held}
use Rattle.gf_tree.specs.declared.game.sets.SetKey.{SetKey as StoredKey}
use Rattle.gf_tree.specs.declared.game.sets.StoredSet.{StoredSet}
use Rattle.gf_tree.specs.inner.StoredSets.{AreNumbered}
use Rattle.gf_tree.proofs.lemmas.stores.Stretching.{items_after, items_until, part_until}

abbrev pub Entry : Type 0
Entry = StoredKey × StoredSet

abbrev set_made : Entry → List Held → Described SetKey InformationSet
set_made e actions = record {
  key = set_of e.0.player e.0.number;
  description = record { name = label_of e.1.name; actions = actions_of actions };
}

-- ---- looking up

-- the stretch at a place
pub within : (entries : List Entry) (actions : List Held) (from place : ℕ) (e : Entry)
    → AreStretches (λ e. e.1.start) (λ e. end_of e.1) entries actions from
    → slice_get entries place ≡ Some e
    → (e.1.start ≤ end_of e.1) × (end_of e.1 ≤ from) × (from ≤ length actions)
within entries actions from place e are at = grind (arith, at_place)
  where
    at_place : (es : List Entry) (k : ℕ)
        → AllByRecursion (λ e. (e.1.start ≤ end_of e.1) × (end_of e.1 ≤ from)) es
        → slice_get es k ≡ Some e → (e.1.start ≤ end_of e.1) × (end_of e.1 ≤ from)
    at_place (f ∷ es) (suc k) all at = at_place es k all.1 at
    at_place es k all at = grind arith

abbrev pub same_stored : StoredKey → StoredKey → Bool
same_stored a b = (a.player == b.player) && (a.number == b.number)

found_from : (actions : List Held) (key : StoredKey) (entries : List Entry) (place : ℕ)
    → position_from (same_stored key) place (keys_of entries)
    ≡ position_from (same_set (set_of key.player key.number)) place
    (map (λ s. s.key) (map (described actions) entries))
found_from actions key [] place = refl
found_from actions key (e ∷ es) place = grind (arith, found_from actions key es (place + 1))

pub found : (entries : List Entry) (actions : List Held) (from : ℕ) (whole : KnownSets)
    → stored_sets entries actions from ≡ whole → (key : StoredKey)
    → position (same_stored key) (keys_of entries)
    ≡ position (same_set (set_of key.player key.number)) (map (λ s. s.key) whole.known)
found entries actions from whole view key = grind (arith, found_from, position_from-zero)

-- ---- numbers up to the greatest one

above_from : (entries : List Entry) (greatest : ℕ) (key : StoredKey) (start : ℕ)
    → AllByRecursion (λ e. e.0.number ≤ greatest) entries → greatest < key.number
    → position_from (same_stored key) start (keys_of entries) ≡ None
above_from [] greatest key start all more = refl
above_from (e ∷ es) greatest key start all more =
    grind (arith, above_from es greatest key (start + 1) all.1 more)

-- a set with a greater number is not there
pub above : (entries : List Entry) (greatest : ℕ) (key : StoredKey)
    → AllByRecursion (λ e. e.0.number ≤ greatest) entries → greatest < key.number
    → position (same_stored key) (keys_of entries) ≡ None
above entries greatest key all more = grind (arith, above_from, position_from-zero)

pub below_then : (entries : List Entry) (greatest : ℕ) (new : Entry) (stored : List Entry) (last : ℕ)
    → AllByRecursion (λ e. e.0.number ≤ greatest) entries → stored ≡ entries ++ new ∷ []
    → last ≡ max greatest new.0.number → AllByRecursion (λ e. e.0.number ≤ last) stored
below_then entries greatest new stored last all is most = rw is (by entries all)
  where
    by : (es : List Entry) → AllByRecursion (λ e. e.0.number ≤ greatest) es
        → AllByRecursion (λ e. e.0.number ≤ last) (es ++ new ∷ [])
    by [] all = (omega (arith, most), tt)
    by (e ∷ es) all = (omega (arith, most, all.0), by es all.1)

-- ---- one more set among those that are known

at_last : {A : Type 0} (xs : List A) (x : A) (place : ℕ)
    → slice_get (xs ++ x ∷ []) place ≡ (if place == length xs then Some x else slice_get xs place)
at_last (y ∷ xs) x (suc place) = at_last xs x place ∙ grind arith
at_last xs x place = grind arith

module _ (players after : List (List ℕ)) (entries : List Entry) (new : Entry)
    (known : List (Described SetKey InformationSet)) (set : Described SetKey InformationSet)
    (as_many : length known ≡ length entries) (are : AreNumbered players entries known)
    (others : (other : ℕ) → other ≢ set.key.player
    → get_or after other [] ≡ get_or players other []) (own : get_or after set.key.player []
    ≡ get_or players set.key.player [] ++ set.key.number ∷ [])
    (among : new.1.among ≡ length (get_or players set.key.player []) + 1) where
  numbers_then : (player : ℕ) → get_or after player []
      ≡ map (λ s. s.key.number) (known_of player (known ++ set ∷ []))
  numbers_then player =
      grind (arith, filter-append, map-append, append-nil, eqb-true, eqb-false, eq-eqb)

  last_among : number_among (known ++ set ∷ []) (length known) ≡ Some new.1.among
  last_among = grind (arith, at_last, take_all, length-append, filter-append, length-map, eq-eqb)

  earlier_among : (place : ℕ) → (place == length known) ≡ false
      → number_among (known ++ set ∷ []) place ≡ number_among known place
  earlier_among place other = by (slice_get known place) refl
    where
      by : (o : Option (Described SetKey InformationSet)) → slice_get known place ≡ o
          → number_among (known ++ set ∷ []) place ≡ number_among known place
      by None at = grind (arith, at_last)
      by (Some s) at =
          let within = slice_get_within known place s at in
          grind (arith, at_last, take-append-le)

  pub numbered_then : AreNumbered after (entries ++ new ∷ []) (known ++ set ∷ [])
  numbered_then = record {
    numbers = numbers_then;
    among = λ place. grind (arith, at_last, last_among, earlier_among, eqb-true);
  }

module _ (players : List (List ℕ)) (entries : List Entry) (actions : List Held) (from : ℕ)
    (are : AreSets players entries actions from) (whole : KnownSets)
    (view : stored_sets entries actions from ≡ whole) where
  -- ---- one more action of the set whose description is being read

  module _ (after : List Held) (action : Held) (is : after ≡ actions ++ action ∷ []) where
    same_known : map (described after) entries ≡ map (described actions) entries
    same_known = ap (λ items. map (described items) entries) is
        ∙ items_after (λ (e : Entry). e.1.start) (λ (e : Entry). end_of e.1) set_made entries
        actions (action ∷ []) from are.stretches

    pub action_pushed : stored_sets entries after from
        ≡ record whole { pending = whole.pending ++ action_of action ∷ [] }
    action_pushed =
        let rest =
        ap actions_of (drop-append-le from actions (action ∷ []) are.stretches.within)
        ∙ map-append action_of (drop from actions) (action ∷ []) in
        cc (is, same_known)

    pub still_sets : AreSets players entries after from
    still_sets = record {
      stretches = record {
        within = omega (arith, are.stretches.within, ap length is, length-append actions (action ∷ []));
        ordered = are.stretches.ordered;
      };
      numbered = subst (AreNumbered players entries) (sym same_known) are.numbered;
      few = are.few;
    }

  -- ---- one more set, with the actions from here on, and the actions that are kept

  module _ (new : Entry) (last : ℕ) (holds : HoldActions actions from new.1.start (end_of new.1))
      (all : last ≡ max from (end_of new.1)) (stored : List Entry) (kept : List Held)
      (is : stored ≡ entries ++ new ∷ []) (cut : kept ≡ take last actions) where
    behind : from ≤ last
    behind = omega (arith, all)

    last_within : last ≤ length actions
    last_within = omega (arith, all, holds.within, holds.begun)

    abbrev set : Described SetKey InformationSet
    set = set_made new (drop from actions)

    known_then : map (described kept) stored ≡ map (described actions) entries ++ set ∷ []
    known_then =
        let those : map (described (take last actions)) entries ≡ map (described actions) entries =
        items_until (λ (e : Entry). e.1.start) (λ (e : Entry). end_of e.1) set_made entries actions
        from last are.stretches behind (omega (arith, all, holds.within, holds.begun)) in
        let this : actions_of (slice_range (take last actions) new.1.start (end_of new.1))
        ≡ actions_of (drop from actions) = grind (arith, part_until, all, last_within) in
        cc (is, cut, map-append (described (take last actions)) entries (new ∷ []))

    pub view_then : stored_sets stored kept last
        ≡ with_pending_set whole (set_of new.0.player new.0.number) (label_of new.1.name)
    view_then =
        let none : actions_of (drop last kept) ≡ [] = ap actions_of (drop_of_length-le kept
        (omega (arith, ap length cut, length-take-le last actions last_within))) in
        cc known_then

    pub are_then : (after : List (List ℕ))
        → ((other : ℕ) → other ≢ new.0.player → get_or after other [] ≡ get_or players other [])
        → get_or after new.0.player [] ≡ get_or players new.0.player [] ++ new.0.number ∷ []
        → new.1.among ≡ length (get_or players new.0.player []) + 1
        → length entries + 1 < 2 ^ 32 → AreSets after stored kept last
    are_then after others own among room = record {
      stretches = rw (is, cut) (grind (arith, length-take-le, all_more, up_to));
      numbered = grind (arith, known_then, numbered_then, length-map);
      few = omega (arith, room, ap length is, length-append entries (new ∷ []));
    }
