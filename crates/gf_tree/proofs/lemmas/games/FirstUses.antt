-- Keys in order of first use, and their descriptions.
use Rattle.gf_tree.proofs.Common.{AllByRecursion, description_at, first_uses, Described, Describes}
use Rattle.gf_tree.proofs.Common.{filter, arith, false, Bool, List, Some, cond, refl, true, Use, []}
use Rattle.gf_tree.proofs.Common.{inl, inr, map, not, sym, ◌∙◌, ◌∷◌, ◌≡◌, ◌⊎◌, ap}
use Rattle.gf_tree.proofs.lemmas.games.Uses.{Has, IsEquality, differ}

-- ---- filters

of_cond : {X : Type 0} (b : Bool) (x : X) (xs : List X) (y : X) → Has (cond b (x ∷ xs) xs) y
    → ((b ≡ true) × (x ≡ y)) ⊎ Has xs y
of_cond b x xs y h = grind arith

in_cond : {X : Type 0} (b : Bool) (x : X) (xs : List X) (y : X) → Has xs y
    → Has (cond b (x ∷ xs) xs) y
in_cond b x xs y h = grind arith

pub of_filter : {X : Type 0} (p : X → Bool) (xs : List X) (y : X) → Has (filter p xs) y
    → Has xs y × (p y ≡ true)
of_filter p [] y h = absurd h
of_filter p (x ∷ xs) y h = elim (of_cond (p x) x (filter p xs) y h) [
  | inl c ↦ (inl c.1, ap p (sym c.1) ∙ c.0)
  | inr k ↦ let r = of_filter p xs y k in (inr r.0, r.1)
]

pub in_filter : {X : Type 0} (p : X → Bool) (xs : List X) (y : X) → Has xs y → p y ≡ true
    → Has (filter p xs) y
in_filter p [] y h e = absurd h
in_filter p (x ∷ xs) y (inl q) e = let passes : p x ≡ true = ap p q ∙ e in rw passes (inl q)
in_filter p (x ∷ xs) y (inr h) e = in_cond (p x) x (filter p xs) y (in_filter p xs y h e)

-- ---- first uses

-- the keys that are used have a first use
pub is_used : {K : Type 0} (same : K → K → Bool)
    → IsEquality same → (ks : List K) (k : K) → Has ks k → Has (first_uses same ks) k
is_used same equality [] k h = absurd h
is_used same equality (key ∷ ks) k (inl q) = inl q
is_used same equality (key ∷ ks) k (inr m) = grind (arith, in_filter, is_used same equality ks k)

-- and no others
pub was_used : {K : Type 0} (same : K → K → Bool) (ks : List K) (k : K) → Has (first_uses same ks) k
    → Has ks k
was_used same [] k h = absurd h
was_used same (key ∷ ks) k (inl q) = inl q
was_used same (key ∷ ks) k (inr m) =
    inr (was_used same ks k (of_filter (λ j. not (same key j)) (first_uses same ks) k m).0)

-- no key stands twice
abbrev pub AreDistinct : {K : Type 0} → List K → Type 0
AreDistinct [] = Unit {0}
AreDistinct (k ∷ ks) = (Has ks k → ⊥) × AreDistinct ks

filter_distinct : {K : Type 0} (test : K → Bool) (ks : List K) → AreDistinct ks
    → AreDistinct (filter test ks)
filter_distinct test [] h = tt
filter_distinct test (k ∷ ks) h = grind (arith, of_filter, filter_distinct test ks h.1)

pub first_uses_distinct : {K : Type 0} (same : K → K → Bool) → IsEquality same → (ks : List K)
    → AreDistinct (first_uses same ks)
first_uses_distinct same equality [] = tt
first_uses_distinct same equality (key ∷ ks) =
    grind (arith, of_filter, filter_distinct, first_uses_distinct same equality ks)

-- ---- descriptions

-- a description for each key of a list
pub describe_all : {K D : Type 0} (uses : List (Use K D)) (ks : List K)
    → ((k : K) → Has ks k → (d : D) × Describes uses k d)
    → (xs : List (Described K D)) × (map (λ s. s.key) xs ≡ ks)
    × AllByRecursion (λ s. Describes uses s.key s.description) xs
describe_all uses [] known = ([], refl, tt)
describe_all uses (k ∷ ks) known =
    let d = known k (inl refl) in
    let rest = describe_all uses ks (λ j m. known j (inr m)) in
    (record { key = k; description = d.0 } ∷ rest.0, ap (λ js. k ∷ js) rest.1, (d.1, rest.2))

-- a key among the entries is found, with one of its descriptions
pub record Found {K D : Type 0} (same : K → K → Bool) (xs : List (Described K D)) (key : K) :
    Type 0 where
  pub description : D
  pub is_at : description_at same xs key ≡ Some description
  pub among : Has xs (record { key = key; description = description })

found_by : {K D : Type 0} (same : K → K → Bool) → IsEquality same
    → (x : Described K D) (xs : List (Described K D)) (key : K) → (b : Bool) → same x.key key ≡ b
    → Has (map (λ s. s.key) (x ∷ xs)) key → (Has (map (λ s. s.key) xs) key → Found same xs key)
    → Found same (x ∷ xs) key
found_by same equality x xs key true e h later =
    let q = (equality x.key key).0 e in
    record {
      description = x.description;
      is_at = rw e refl;
      among = inl (λ i. record { key = q i; description = x.description });
    }
found_by {K} {D} same equality x xs key false e h later = grind (arith, differ)

pub found : {K D : Type 0} (same : K → K → Bool) → IsEquality same
    → (xs : List (Described K D)) (key : K) → Has (map (λ s. s.key) xs) key → Found same xs key
found same equality [] key h = absurd h
found same equality (x ∷ xs) key h = grind (arith, found_by, found same equality xs key)
