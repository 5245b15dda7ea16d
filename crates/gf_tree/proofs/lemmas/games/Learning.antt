-- What is learned use by use is what a consistent list describes.
use Rattle.gf_tree.proofs.Common.{AllByRecursion, description_at, AreConsistent, append_assoc, Bool}
use Rattle.gf_tree.proofs.Common.{append-nil, first_uses, map-append, Described, Describes, Learns}
use Rattle.gf_tree.proofs.Common.{same_Some, Option, arith, subst, List, None, Some, refl, true, []}
use Rattle.gf_tree.proofs.Common.{◌++◌, Use, inl, inr, map, sym, ◌↔◌, ◌∙◌, ◌∷◌, ◌≡◌, ◌⊎◌, ap}
use Rattle.gf_tree.specs.Consistent.{IsDescribed, IsFirstUse}
use Rattle.gf_tree.proofs.lemmas.games.FirstUses.{found, is_used}
use Rattle.gf_tree.proofs.lemmas.games.Members.{all_more, in_left, in_right}
use Rattle.gf_tree.proofs.lemmas.games.Uses.{Has, IsEquality, all_of_each, contains, described_once}
use Rattle.gf_tree.proofs.lemmas.games.Uses.{each, has, has_map}
use Rattle.gf_tree.proofs.lemmas.runs.Learned.{IsKnown, IsNew, found_has}
use Rattle.gf_tree.proofs.lemmas.runs.Learned.{learns_on, learns_split, one, one_use}
use Rattle.gf_tree.proofs.lemmas.stores.KnownKeys.{known_more, used_before}
use Rattle.std.specs.List.{list_any}

-- ---- one more at the end

of_more : {X : Type 0} (xs : List X) (y x : X) → Has (xs ++ y ∷ []) x → Has xs x ⊎ (y ≡ x)
of_more [] y x h = grind arith
of_more (z ∷ xs) y x h = grind (arith, of_more xs y x)

-- what stands at a place is the last, or stands there without it
at_place : {X : Type 0} (xs : List X) (x : X) (before : List X) (y : X) (after : List X)
    → xs ++ x ∷ [] ≡ before ++ y ∷ after
    → ((before ≡ xs) × (x ≡ y)) ⊎ ((others : List X) × (xs ≡ before ++ y ∷ others))
at_place [] x [] y after e = inl (refl, cc)
at_place [] x (z ∷ []) y after e = absurd cc
at_place [] x (z ∷ w ∷ before) y after e = absurd cc
at_place (w ∷ xs) x [] y after e = let same : w ≡ y = cc in inr (xs, ap (λ z. z ∷ xs) same)
at_place (w ∷ xs) x (z ∷ before) y after e =
    grind (arith, at_place xs x before y after cc)

module _ {K : Type 0} (same : K → K → Bool) (equality : IsEquality same) where
  new_firsts : (ks : List K) (k : K) → ¬ (Has ks k)
      → first_uses same (ks ++ k ∷ []) ≡ first_uses same ks ++ k ∷ []
  new_firsts ks k h = grind (arith, known_more same equality ks k, used_before)

  any_of : (ks : List K) (k : K) → Has ks k → list_any (same k) ks ≡ true
  any_of [] k h = absurd h
  any_of (j ∷ ks) k h = grind (arith, any_of ks k)

  old_firsts : (ks : List K) (k : K) → Has ks k
      → first_uses same (ks ++ k ∷ []) ≡ first_uses same ks
  old_firsts ks k h = rw (any_of ks k h) at (known_more same equality ks k)

-- ---- what uses tell, in order of first use

module _ {K D : Type 0} (same : K → K → Bool) (equality : IsEquality same) where
  abbrev keys_of : List (Use K D) → List K
  keys_of us = map (λ u. u.key) us

  abbrev Tell : List (Use K D) → List (Described K D) → Type 0
  Tell us known = AreConsistent us × (map (λ s. s.key) known ≡ first_uses same (keys_of us))
      × AllByRecursion (λ s. Describes us s.key s.description) known

  abbrev told : K → D → Use K D
  told key d = record { key = key; description = Some d }

  consistent_more : (us : List (Use K D)) (u : Use K D) → AreConsistent us
      → (IsFirstUse us u → IsDescribed u)
      → ((key : K) (c d : D) → Has us (told key c) → u ≡ told key d → c ≡ d)
      → AreConsistent (us ++ u ∷ [])
  consistent_more us u ok first alike = record {
    first_described = λ before after v e is.
        elim (at_place us u before v after e) [
          | inl h ↦ subst IsDescribed h.1 (first (subst (λ w. IsFirstUse us w) (sym h.1)
              (subst (λ vs. IsFirstUse vs v) h.0 is)))
          | inr h ↦ ok.first_described before h.0 v h.1 is
        ];
    described_alike = λ key c d h k.
        by key c d (of_more us u (told key c) (has (us ++ u ∷ []) (told key c) h))
        (of_more us u (told key d) (has (us ++ u ∷ []) (told key d) k));
  }
    where
      by : (key : K) (c d : D) → Has us (told key c) ⊎ (u ≡ told key c)
          → Has us (told key d) ⊎ (u ≡ told key d) → c ≡ d
      by key c d (inl h) (inl k) =
          ok.described_alike key c d (contains us (told key c) h) (contains us (told key d) k)
      by key c d (inl h) (inr k) = alike key c d h k
      by key c d (inr h) (inl k) = sym (alike key d c k h)
      by key c d (inr h) (inr k) =
          same_Some c d (ap (λ (v : Use K D). v.description) (sym h ∙ k))

  module _ (us : List (Use K D)) (known : List (Described K D)) (tell : Tell us known) where
    not_used : (key : K) → description_at same known key ≡ None → ¬ (Has (keys_of us) key)
    not_used key none h =
        let f = found same equality known key
        (subst (λ ks. Has ks key) (sym tell.1) (is_used same equality (keys_of us) key h)) in
        (cc)

    is_first : (u : Use K D) → description_at same known u.key ≡ None → IsFirstUse us u
    is_first u none = all_of_each (λ v. ¬ (v.key ≡ u.key)) us (λ v m e. not_used u.key none
        (subst (Has (keys_of us)) e (has_map (λ (w : Use K D). w.key) us v m)))

    has_told : (key : K) (d : D) → description_at same known key ≡ Some d → Has us (told key d)
    has_told key d e = has us (told key d)
        (found_has same equality (λ k c. Describes us k c) known key d tell.2 e)

    still : (u : Use K D) → AllByRecursion (λ s. Describes (us ++ u ∷ []) s.key s.description) known
    still u = all_of_each (λ s. Describes (us ++ u ∷ []) s.key s.description) known (λ s m.
        contains (us ++ u ∷ []) (told s.key s.description) (in_left us (u ∷ []) _
        (has us (told s.key s.description)
        (each (λ s. Describes us s.key s.description) known s tell.2 m))))

    keys_more : (u : Use K D) → keys_of (us ++ u ∷ []) ≡ keys_of us ++ u.key ∷ []
    keys_more u = map-append (λ (v : Use K D). v.key) us (u ∷ [])

    tell_new : (u : Use K D) (next : List (Described K D)) → IsNew same known u next
        → Tell (us ++ u ∷ []) next
    tell_new u next n =
        let not = not_used u.key n.unknown in
        let is : u ≡ told u.key n.description =
        λ i. record { key = u.key; description = n.told i } in
        rw n.more (
          consistent_more us u tell.0 (λ first. (n.description, n.told)) (λ key c d h e. absurd (not
              (subst (Has (keys_of us)) (sym (ap (λ (v : Use K D). v.key) e))
              (has_map (λ (v : Use K D). v.key) us (told key c) h)))),
          map-append (λ (s : Described K D). s.key) known (one u.key n.description ∷ [])
              ∙ ap (λ ks. ks ++ u.key ∷ []) tell.1
              ∙ sym (new_firsts same equality (keys_of us) u.key not)
              ∙ sym (ap (first_uses same) (keys_more u)),
          all_more (λ s. Describes (us ++ u ∷ []) s.key s.description) known
              (one u.key n.description) (still u) (contains (us ++ u ∷ []) (told u.key n.description)
              (in_right us (u ∷ []) (told u.key n.description) (inl is))),
        )

    tell_again : (u : Use K D) (next : List (Described K D)) → IsKnown same known u next
        → Tell (us ++ u ∷ []) next
    tell_again u next k =
        let there = has_told u.key k.description k.is_known in
        rw k.no_more (
          consistent_more us u tell.0
              (λ first. absurd (each (λ v. ¬ (v.key ≡ u.key)) us _ first there refl))
              (λ key c d h e. by key c d h e k.told),
          tell.1 ∙ sym (old_firsts same equality (keys_of us) u.key
              (has_map (λ (v : Use K D). v.key) us (told u.key k.description) there))
              ∙ sym (ap (first_uses same) (keys_more u)),
          still u,
        )
      where
        by : (key : K) (c d : D) → Has us (told key c) → u ≡ told key d
            → (u.description ≡ None) ⊎ (u.description ≡ Some k.description) → c ≡ d
        by key c d h e (inl none) = absurd (cc)
        by key c d h e (inr some) =
            let is : told u.key k.description ≡ told key d =
            (λ i. record { key = u.key; description = sym some i }) ∙ e in
            tell.0.described_alike key c d (contains us (told key c) h)
            (contains us (told key d) (subst (Has us) is (has_told u.key k.description k.is_known)))

    tell_more : (u : Use K D) (next : List (Described K D)) → Learns same known (u ∷ []) next
        → Tell (us ++ u ∷ []) next
    tell_more u next l = elim (one_use same known u next l) [
      | inl n ↦ tell_new u next n
      | inr k ↦ tell_again u next k
    ]

    -- a consistent list goes on with something to learn
    learns_one : (u : Use K D) (others : List (Use K D)) → AreConsistent (us ++ u ∷ others)
        → (next : List (Described K D)) × Learns same known (u ∷ []) next
    learns_one u others ok = by (description_at same known u.key) refl
      where
        by : (o : Option D) → description_at same known u.key ≡ o
            → (next : List (Described K D)) × Learns same known (u ∷ []) next
        by None e =
            let d = ok.first_described us others u refl (is_first u e) in
            (known ++ one u.key d.0 ∷ [], rw e (d.0, d.1, refl))
        by (Some d) e = (known, rw e (alike u.description refl, refl))
          where
            alike : (a : Option D) → u.description ≡ a → (a ≡ None) ⊎ (a ≡ Some d)
            alike None is = inl refl
            alike (Some a) is =
                inr (ap (λ x. Some x) (ok.described_alike u.key a d
                (contains (us ++ u ∷ others) (told u.key a) (in_right us (u ∷ others) (told u.key a)
                (inl (λ i. record { key = u.key; description = is i }))))
                (contains (us ++ u ∷ others) (told u.key d) (in_left us (u ∷ others) (told u.key d)
                (has_told u.key d e)))))

  -- ---- use by use

  tell_all : (vs us : List (Use K D)) (known end : List (Described K D)) → Tell us known
      → Learns same known vs end → Tell (us ++ vs) end
  tell_all [] us known end tell h = rw (append-nil us, h) tell
  tell_all (v ∷ vs) us known end tell h =
      let l = learns_split same (v ∷ []) vs known end h in
      rw (← append_assoc us (v ∷ []) vs)
      (tell_all vs (us ++ v ∷ []) l.0 end (tell_more us known tell v l.0 l.1) l.2)

  learns_all : (vs us : List (Use K D)) (known : List (Described K D)) → Tell us known
      → AreConsistent (us ++ vs) → (end : List (Described K D)) × Learns same known vs end
  learns_all [] us known tell ok = (known, refl)
  learns_all (v ∷ vs) us known tell ok =
      let l = learns_one us known tell v vs ok in
      let r = learns_all vs (us ++ v ∷ []) l.0 (tell_more us known tell v l.0 l.1)
      (rw (append_assoc us (v ∷ []) vs) ok) in
      (r.0, learns_on same (v ∷ []) vs known l.0 r.0 l.1 r.1)

  nothing_told : Tell [] []
  nothing_told = (
    record {
      first_described = λ before after u e first. absurd (no_place before u after e);
      described_alike = λ key c d h k. absurd (has [] (told key c) h);
    },
    refl,
    tt,
  )
    where
      no_place : (before : List (Use K D)) (u : Use K D) (after : List (Use K D))
          → [] ≡ before ++ u ∷ after → ⊥
      no_place [] u after e = cc
      no_place (x ∷ before) u after e = cc

  pub learned_once : (us : List (Use K D)) (end : List (Described K D)) → Learns same [] us end
      ↔ (AreConsistent us × (map (λ s. s.key) end ≡ first_uses same (map (λ u. u.key) us))
      × AllByRecursion (λ s. Describes us s.key s.description) end)
  learned_once us end = (λ h. tell_all us [] [] end nothing_told h, from)
    where
      from : Tell us end → Learns same [] us end
      from h =
          let l = learns_all us [] [] nothing_told h.0 in
          let d = tell_all us [] [] l.0 nothing_told l.1 in
          subst (Learns same [] us) (described_once us h.0 l.0 end (d.1 ∙ sym h.1) d.2 h.2) l.1
