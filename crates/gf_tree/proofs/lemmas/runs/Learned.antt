-- What is learned by one use, and by uses one after another.
use Rattle.gf_tree.proofs.Common.{◌≡◌, Bool, List, [], ◌∷◌, ◌++◌, Some, None, Option, MatchOption}
use Rattle.gf_tree.proofs.Common.{refl, ap, subst, ◌∙◌, arith, ◌⊎◌, AllByRecursion, cons_option}
use Rattle.gf_tree.proofs.Common.{Described, description_at, Use, Learns}
use Rattle.gf_tree.proofs.lemmas.games.Uses.{IsEquality}

abbrev pub one : {K D : Type 0} → K → D → Described K D
one key d = record { key = key; description = d }

abbrev pub use_of : {K D : Type 0} → K → Option D → Use K D
use_of key o = record { key = key; description = o }

abbrev pub uses_of : {K D : Type 0} → Option (Use K D) → List (Use K D)
uses_of o = cons_option o []

-- ---- one use

pub learns_new : {K D : Type 0} (same : K → K → Bool)
    (known : List (Described K D)) (key : K) (d : D) → description_at same known key ≡ None
    → Learns same known (use_of key (Some d) ∷ []) (known ++ one key d ∷ [])
learns_new same known key d e = rw e (d, refl, refl)

pub learns_again : {K D : Type 0} (same : K → K → Bool) (known : List (Described K D)) (key : K)
    (d : D) (o : Option D) → description_at same known key ≡ Some d → (o ≡ None) ⊎ (o ≡ Some d)
    → Learns same known (use_of key o ∷ []) known
learns_again same known key d o e h = rw e (h, refl)

-- the first use of its key, which describes it; or another, with the description that is known or
-- none
pub record IsNew {K D : Type 0} (same : K → K → Bool) (known : List (Described K D)) (u : Use K D)
    (end : List (Described K D)) : Type 0 where
  pub description : D
  pub unknown : description_at same known u.key ≡ None
  pub told : u.description ≡ Some description
  pub more : end ≡ known ++ one u.key description ∷ []

pub record IsKnown {K D : Type 0} (same : K → K → Bool) (known : List (Described K D)) (u : Use K D)
    (end : List (Described K D)) : Type 0 where
  pub description : D
  pub is_known : description_at same known u.key ≡ Some description
  pub told : (u.description ≡ None) ⊎ (u.description ≡ Some description)
  pub no_more : end ≡ known

pub one_use : {K D : Type 0} (same : K → K → Bool)
    (known : List (Described K D)) (u : Use K D) (end : List (Described K D))
    → Learns same known (u ∷ []) end → IsNew same known u end ⊎ IsKnown same known u end
one_use same known u end h = grind arith

-- ---- uses one after another

pub learns_on : {K D : Type 0} (same : K → K → Bool)
    (us vs : List (Use K D)) (known mid end : List (Described K D))
    → Learns same known us mid → Learns same mid vs end → Learns same known (us ++ vs) end
learns_on same [] vs known mid end h k = subst (λ x. Learns same x vs end) h k
learns_on same (u ∷ us) vs known mid end h k = grind (arith, learns_on same us vs)

pub learns_split : {K D : Type 0} (same : K → K → Bool)
    (us vs : List (Use K D)) (known end : List (Described K D)) → Learns same known (us ++ vs) end
    → (mid : List (Described K D)) × Learns same known us mid × Learns same mid vs end
learns_split same [] vs known end h = (known, refl, h)
learns_split same (u ∷ us) vs known end h = grind (arith, learns_split same us vs)

-- ---- what is known stays so

abbrev Kept : {K D : Type 0} → (K → K → Bool) → List (Described K D) → List (Described K D) → Type 0
Kept {K} {D} same known end = (key : K) (d : D) → description_at same known key ≡ Some d
    → description_at same end key ≡ Some d

kept_more : {K D : Type 0} (same : K → K → Bool) (known : List (Described K D)) (x : Described K D)
    → Kept same known (known ++ x ∷ [])
kept_more same [] x key d e = absurd cc
kept_more {K} {D} same (y ∷ known) x key d e = grind (arith, kept_more same known x key d)

pub kept : {K D : Type 0} (same : K → K → Bool) (us : List (Use K D))
    (known end : List (Described K D)) → Learns same known us end → Kept same known end
kept same [] known end h key d e = ap (λ x. description_at same x key) h ∙ e
kept {K} {D} same (u ∷ us) known end h key d e =
    by (λ x l. kept same us x end l key d) (description_at same known u.key) h
  where
    by : ((x : List (Described K D)) → Learns same x us end → description_at same x key ≡ Some d
        → description_at same end key ≡ Some d) → (o : Option D) → MatchOption o
        ((d : D) × (u.description ≡ Some d) × Learns same (known ++ one u.key d ∷ []) us end)
        (λ d. ((u.description ≡ None) ⊎ (u.description ≡ Some d)) × Learns same known us end)
        → description_at same end key ≡ Some d
    by later None l =
        later (known ++ one u.key l.0 ∷ []) l.2 (kept_more same known (one u.key l.0) key d e)
    by later (Some c) l = later known l.1 e

-- after one more, its key has its description
pub at_new : {K D : Type 0} (same : K → K → Bool) → IsEquality same
    → (known : List (Described K D)) (key : K) (d : D) → description_at same known key ≡ None
    → description_at same (known ++ one key d ∷ []) key ≡ Some d
at_new same equality [] key d e = rw ((equality key key).1 refl) refl
at_new {K} {D} same equality (y ∷ known) key d e =
    grind (arith, at_new same equality known key d)

-- what holds for all entries holds for what is found
pub found_has : {K D : Type 0} (same : K → K → Bool)
    → IsEquality same → (P : K → D → Type 0) (es : List (Described K D)) (key : K) (d : D)
    → AllByRecursion (λ s. P s.key s.description) es → description_at same es key ≡ Some d → P key d
found_has same equality P [] key d all e = absurd cc
found_has {K} {D} same equality P (x ∷ es) key d all e =
    grind (arith, found_has same equality P es key d all.1)

pub all_before : {X : Type 0} (P : X → Type 0) (xs : List X) (x : X)
    → AllByRecursion P (xs ++ x ∷ []) → AllByRecursion P xs
all_before P [] x h = tt
all_before P (y ∷ xs) x h = (h.0, all_before P xs x h.1)

-- what holds for all that is known in the end holds for what was known before
pub all_known : {K D : Type 0} (same : K → K → Bool) (P : Described K D → Type 0)
    (us : List (Use K D)) (known end : List (Described K D)) → Learns same known us end
    → AllByRecursion P end → AllByRecursion P known
all_known same P [] known end h all = subst (AllByRecursion P) h all
all_known same P (u ∷ us) known end h all = grind (arith, all_known same P us, all_before)
