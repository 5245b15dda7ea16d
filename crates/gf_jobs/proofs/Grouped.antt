-- How a file is put into the group of its hash.
use Rattle.std.proofs.Common.{length, get_or, false, subst, arith, Bool, true, cond, List, ◌++◌}
use Rattle.std.proofs.Common.{refl, ◌≡◌, ◌<◌, ◌≤◌, ◌∷◌, map, set, sym, ◌∙◌, [], inl, inr, ℕ}
use Rattle.std.proofs.lemmas.Bool.{both_ways}
use Rattle.std.proofs.lemmas.Bool.Decides.{Decides-eqb}
use Rattle.std.proofs.lemmas.List.{append-nil, get_or-map, length-map, map-append, map-set}
use Rattle.std.proofs.lemmas.List.Elements.{filter-append}
use Rattle.std.proofs.lemmas.Slice.Eq.{slice_eq-Decides}
use Rattle.std.specs.List.{list_any, position_or_len}
use Rattle.std.specs.Prelude.{◌⊎◌}
use Rattle.gf_tree.specs.FiniteMap.{first_uses}
use Rattle.std.specs.Str.{bytes_eq}
use Rattle.gf_tree.proofs.Offered.{AreDistinct, Has, IsEquality, first_uses_distinct, is_used}
use Rattle.gf_tree.proofs.Offered.{known_more, map_twice, used_before, was_used}
use Rattle.indexmap.specs.IndexSet.{insert_key}
use Rattle.gf_jobs.specs.Duplicates.{HashedFile, hashes_of, having, names_of}
use Rattle.gf_jobs.specs.inner.KeptNames.{IsKeptOf, KeptNames}

pub same_hash_equality : IsEquality bytes_eq
same_hash_equality a b = slice_eq-Decides Decides-eqb a b (bytes_eq a b) refl

module _ {K : Type 0} (same : K → K → Bool) (equality : IsEquality same) where
  -- the test finds what a list has
  finds : (ks : List K) (k : K) → Has ks k → list_any (same k) ks ≡ true
  finds [] k m = absurd m
  finds (a ∷ ks) k m = grind (arith, finds ks k)

  -- first uses, with one more use
  pub first_uses_more : (ks : List K) (k : K)
      → first_uses same (ks ++ k ∷ []) ≡ insert_key same (first_uses same ks) k
  first_uses_more ks k = grind (
    arith,
    known_more same equality,
    finds,
    is_used same equality,
    was_used same,
    used_before same equality,
  )

  -- ---- the place of a key

  -- a key stands at its place, or at none
  abbrev pub HasPlace : K → List K → Type 0
  HasPlace k ks =
      ((list_any (same k) ks ≡ true) × (position_or_len (same k) ks < length ks))
      ⊎ ((list_any (same k) ks ≡ false) × (position_or_len (same k) ks ≡ length ks))

  pub has_place : (k : K) (ks : List K) → HasPlace k ks
  has_place k [] = inr (refl, refl)
  has_place k (a ∷ ks) = grind (arith, has_place k ks)

  module _ {N : Type 0} (v : K → List N) (n : N) where
    pub none_at : (k : K) (ks : List K) → (Has ks k → ⊥)
        → map v ks ≡ map (λ h. v h ++ cond (same h k) (n ∷ []) []) ks
    none_at k [] apart = refl
    none_at k (a ∷ ks) apart = grind (arith, none_at k ks (λ m. apart (inr m)), append-nil)

    -- one more at the place of a key
    pub at_key : (k : K) (ks : List K) (d : List N) → AreDistinct ks
        → position_or_len (same k) ks < length ks
        → set (map v ks) (position_or_len (same k) ks)
        (get_or (map v ks) (position_or_len (same k) ks) d ++ n ∷ [])
        ≡ map (λ h. v h ++ cond (same h k) (n ∷ []) []) ks
    at_key k [] d distinct within = absurd (omega (arith, within))
    at_key k (a ∷ ks) d distinct within =
        grind (arith, at_key k ks d distinct.1, none_at k ks, append-nil)

-- ---- the groups of files, with one more file

none_having : (files : List HashedFile) (k : List ℕ) → (Has (map (λ file. file.hash) files) k → ⊥)
    → having files k ≡ []
none_having [] k apart = refl
none_having (f ∷ files) k apart =
    grind (arith, none_having files k (λ m. apart (inr m)), same_hash_equality k f.hash)

each_more : (files : List HashedFile) (f : HashedFile) (h : List ℕ)
    → names_of (having (files ++ f ∷ []) h)
    ≡ names_of (having files h) ++ cond (bytes_eq h f.hash) (f.name ∷ []) []
each_more files f h = grind (arith, filter-append, map-append)

hashes_more : (files : List HashedFile) (f : HashedFile)
    → hashes_of (files ++ f ∷ []) ≡ insert_key bytes_eq (hashes_of files) f.hash
hashes_more files f = grind (arith, map-append, first_uses_more bytes_eq same_hash_equality)

names_by_more : (files : List HashedFile) (f : HashedFile) (hashes : List (List ℕ))
    → map (λ h. names_of (having files h) ++ cond (bytes_eq h f.hash) (f.name ∷ []) []) hashes
    ≡ map (λ h. names_of (having (files ++ f ∷ []) h)) hashes
names_by_more files f hashes = simp each_more

is_kept : (files : List HashedFile) (kept : KeptNames) (hashes : List (List ℕ))
    → kept.hashes ≡ hashes_of files → hashes ≡ hashes_of files
    → kept.names ≡ map (λ h. names_of (having files h)) hashes → IsKeptOf files kept
is_kept files kept hashes is same names = grind (arith, map_twice)

module _ (files : List HashedFile) (kept : KeptNames) (is : IsKeptOf files kept) (f : HashedFile)
    (new : KeptNames) (inserted : new.hashes ≡ insert_key bytes_eq kept.hashes f.hash)
    (at : ℕ) (placed : at ≡ position_or_len (bytes_eq f.hash) kept.hashes) where
  hashes_are : new.hashes ≡ hashes_of (files ++ f ∷ [])
  hashes_are = cc (inserted, is.hashes, hashes_more files f)

  names_are : kept.names ≡ map (λ h. names_of (having files h)) kept.hashes
  names_are = rw (is.hashes, ← map_twice names_of (having files)) is.names

  as_many : length kept.names ≡ length kept.hashes
  as_many = grind (arith, length-map, is.names, is.hashes)

  apart : AreDistinct kept.hashes
  apart = rw is.hashes (first_uses_distinct bytes_eq same_hash_equality _)

  -- its hash was there, and its name goes into the group at its place
  pub more_there : at < length kept.names
      → new.names ≡ set kept.names at (get_or kept.names at [] ++ f.name ∷ [])
      → IsKeptOf (files ++ f ∷ []) new
  more_there within named = elim (has_place bytes_eq same_hash_equality f.hash kept.hashes) [
    | inr h ↦ absurd (omega (arith, within, as_many, placed, h.1))
    | inl h ↦
        let stay : new.hashes ≡ kept.hashes = rw h.0 at inserted in
        let put = at_key bytes_eq same_hash_equality (λ h. names_of (having files h)) f.name
        f.hash kept.hashes [] apart h.1 in
        is_kept (files ++ f ∷ []) new kept.hashes hashes_are (sym stay ∙ hashes_are)
        (rw (names_are, placed) at named ∙ put ∙ names_by_more files f kept.hashes)
  ]

  -- its hash is new, and so is its group
  pub more_new : length kept.names ≤ at → new.names ≡ kept.names ++ (f.name ∷ []) ∷ []
      → IsKeptOf (files ++ f ∷ []) new
  more_new past named = elim (has_place bytes_eq same_hash_equality f.hash kept.hashes) [
    | inl h ↦ absurd (omega (arith, past, as_many, placed, h.1))
    | inr h ↦
        let grown : new.hashes ≡ kept.hashes ++ f.hash ∷ [] = rw h.0 at inserted in
        let none : Has kept.hashes f.hash → ⊥ =
        λ m. both_ways _ h.0 (finds bytes_eq same_hash_equality kept.hashes f.hash m) in
        let unused : having files f.hash ≡ [] = none_having files f.hash
        (λ m. none (subst (λ (hs : List (List ℕ)). Has hs f.hash) (sym is.hashes)
        (is_used bytes_eq same_hash_equality (map (λ file. file.hash) files) f.hash m))) in
        let own : names_of (having (files ++ f ∷ []) f.hash) ≡ f.name ∷ [] =
        rw (each_more files f f.hash, unused, (same_hash_equality f.hash f.hash).1 refl) refl in
        let front : kept.names ≡ map (λ h. names_of (having (files ++ f ∷ []) h)) kept.hashes =
        names_are ∙ none_at bytes_eq same_hash_equality (λ h. names_of (having files h)) f.name
        f.hash kept.hashes none ∙ names_by_more files f kept.hashes in
        is_kept (files ++ f ∷ []) new (kept.hashes ++ f.hash ∷ []) hashes_are
        (sym grown ∙ hashes_are) (rw (
          map-append (λ h. names_of (having (files ++ f ∷ []) h)) kept.hashes (f.hash ∷ []),
          own,
          ← front,
        ) named)
  ]

-- ---- the vectors that keep them

module _ {V : Type 0} (F : V → List (List ℕ)) (items : List V) (new : V) (name : List ℕ) where
  -- a name is put at the end of the group at a place
  pub put_there : (at : ℕ) (group : V) → at < length items → group ≡ get_or items at group
      → F new ≡ F group ++ name ∷ []
      → map F (set items at new) ≡ set (map F items) at (get_or (map F items) at [] ++ name ∷ [])
  put_there at group within is named = grind (arith, map-set, get_or-map)

  pub put_last : F new ≡ name ∷ [] → map F (items ++ new ∷ []) ≡ map F items ++ (name ∷ []) ∷ []
  put_last named = rw (map-append F items (new ∷ []), named) refl
