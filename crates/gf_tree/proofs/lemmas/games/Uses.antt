-- Uses of keys: where each key is first used, and which descriptions a consistent list gives.
use Rattle.gf_tree.proofs.Common.{◌≡◌, ◌↔◌, ℕ, suc, ◌<◌, Bool, true, false, List, [], ◌∷◌}
use Rattle.gf_tree.proofs.Common.{◌++◌, length, map, drop, get_or, Some, Option, refl, sym}
use Rattle.gf_tree.proofs.Common.{ap, subst, ◌∙◌, arith, inl, inr, ◌⊎◌, AllByRecursion, cons_option}
use Rattle.gf_tree.proofs.Common.{Described, Use, Describes, AreConsistent}
use Rattle.std.specs.List.{Contains}
use Rattle.gf_tree.proofs.lemmas.Once.{true_or_false}

-- ---- an element of a list, by recursion

abbrev pub Has : {X : Type 0} → List X → X → Type 0
Has [] x = ⊥
Has (y ∷ ys) x = (y ≡ x) ⊎ Has ys x

has_at : {X : Type 0} (xs : List X) (x : X) (k : ℕ) → k < length xs → get_or xs k x ≡ x → Has xs x
has_at (y ∷ ys) x (suc k) h e = inr (has_at ys x k (omega (arith, h)) e)
has_at xs x k h e = grind arith

pub has : {X : Type 0} (xs : List X) (x : X) → Contains xs x → Has xs x
has xs x c = has_at xs x c.0 c.1 c.2

pub contains : {X : Type 0} (xs : List X) (x : X) → Has xs x → Contains xs x
contains [] x h = absurd h
contains (y ∷ ys) x (inl e) = (0, omega arith, e)
contains (y ∷ ys) x (inr h) = let c = contains ys x h in (suc c.0, omega (arith, c.1), c.2)

pub has_map : {X Y : Type 0} (f : X → Y) (xs : List X) (x : X) → Has xs x → Has (map f xs) (f x)
has_map f [] x h = absurd h
has_map f (y ∷ ys) x (inl e) = inl (ap f e)
has_map f (y ∷ ys) x (inr h) = inr (has_map f ys x h)

-- an element of what is mapped is mapped from one
pub mapped_from : {X Y : Type 0} (f : X → Y) (xs : List X) (y : Y) → Has (map f xs) y
    → (x : X) × Has xs x × (f x ≡ y)
mapped_from f [] y h = absurd h
mapped_from f (x ∷ xs) y (inl e) = (x, inl refl, e)
mapped_from f (x ∷ xs) y (inr h) = let m = mapped_from f xs y h in (m.0, inr m.1, m.2)

-- what holds for all holds for each
pub each : {X : Type 0} (P : X → Type 0) (xs : List X) (x : X) → AllByRecursion P xs → Has xs x
    → P x
each P [] x all h = absurd h
each P (y ∷ ys) x all (inl e) = subst P e all.0
each P (y ∷ ys) x all (inr h) = each P ys x all.1 h

pub all_of_each : {X : Type 0} (P : X → Type 0) (xs : List X) → ((x : X) → Has xs x → P x)
    → AllByRecursion P xs
all_of_each P [] h = tt
all_of_each P (x ∷ xs) h = (h x (inl refl), all_of_each P xs (λ y m. h y (inr m)))

pub has_first : {X : Type 0} (o : Option X) (xs : List X) (x : X) → o ≡ Some x
    → Has (cons_option o xs) x
has_first o xs x e = grind arith

pub has_later : {X : Type 0} (o : Option X) (xs : List X) (x : X) → Has xs x
    → Has (cons_option o xs) x
has_later o xs x h = grind arith

-- ---- equality that is computed

abbrev pub IsEquality : {K : Type 0} → (K → K → Bool) → Type 0
IsEquality {K} same = (a b : K) → (same a b ≡ true) ↔ (a ≡ b)

pub differ : {K : Type 0} (same : K → K → Bool)
    → IsEquality same → (a b : K) → same a b ≡ false → a ≡ b → ⊥
differ same equality a b h e = true_or_false (same a b) ((equality a b).1 e) h

pub either_way : {K : Type 0} (same : K → K → Bool) → IsEquality same → (key k : K)
    → same k key ≡ same key k
either_way same equality key k = grind arith

-- ---- first uses

-- the first use of a key that is used
record FirstUse {K D : Type 0} (uses : List (Use K D)) (key : K) : Type 0 where
  before : List (Use K D)
  after : List (Use K D)
  use_of : Use K D
  place : uses ≡ before ++ use_of ∷ after
  same_key : use_of.key ≡ key
  is_first : AllByRecursion (λ v. ¬ (v.key ≡ use_of.key)) before

use_by_test : {K D : Type 0} (same : K → K → Bool)
    → IsEquality same → (v u : Use K D) (vs : List (Use K D)) → Has (v ∷ vs) u
    → (Has vs u → FirstUse vs u.key) → (b : Bool) → same v.key u.key ≡ b → FirstUse (v ∷ vs) u.key
use_by_test same equality v u vs h later true e = record {
  before = [];
  after = vs;
  use_of = v;
  place = refl;
  same_key = (equality v.key u.key).0 e;
  is_first = tt;
}
use_by_test {K} {D} same equality v u vs h later false e =
    let apart = differ same equality v.key u.key e in
    let among : Has vs u =
    elim h [ inl q ↦ absurd (apart (ap (λ (w : Use K D). w.key) q)) | inr m ↦ m ] in
    let r = later among in
    record {
      before = v ∷ r.before;
      after = r.after;
      use_of = r.use_of;
      place = ap (λ ws. v ∷ ws) r.place;
      same_key = r.same_key;
      is_first = (λ q. apart (q ∙ r.same_key), r.is_first);
    }

first_use : {K D : Type 0} (same : K → K → Bool)
    → IsEquality same → (uses : List (Use K D)) (u : Use K D) → Has uses u → FirstUse uses u.key
first_use same equality [] u h = absurd h
first_use same equality (v ∷ vs) u h =
    use_by_test same equality v u vs h (first_use same equality vs u) (same v.key u.key) refl

pub has_place : {X : Type 0} (before after : List X) (x : X) → Has (before ++ x ∷ after) x
has_place [] after x = inl refl
has_place (y ∷ before) after x = inr (has_place before after x)

-- each key that is used is described
pub described : {K D : Type 0} (same : K → K → Bool) → IsEquality same → (uses : List (Use K D))
    → AreConsistent uses → (u : Use K D) → Has uses u → (d : D) × Describes uses u.key d
described same equality uses consistent u h =
    let f = first_use same equality uses u h in
    let d = consistent.first_described f.before f.after f.use_of f.place f.is_first in
    let found = subst (λ vs. Has vs f.use_of) (sym f.place) (has_place f.before f.after f.use_of) in
    let is : f.use_of ≡ record { key = u.key; description = Some d.0 } =
    λ i. record { key = f.same_key i; description = d.1 i } in (
      d.0,
      contains uses (record { key = u.key; description = Some d.0 }) (subst (Has uses) is found),
    )

-- the descriptions of the same keys are the same
pub described_once : {K D : Type 0} (uses : List (Use K D)) → AreConsistent uses
    → (xs ys : List (Described K D)) → map (λ s. s.key) xs ≡ map (λ s. s.key) ys
    → AllByRecursion (λ s. Describes uses s.key s.description) xs
    → AllByRecursion (λ s. Describes uses s.key s.description) ys → xs ≡ ys
described_once uses consistent [] [] e h k = refl
described_once uses consistent (x ∷ xs) (y ∷ ys) e h k =
    let key : x.key ≡ y.key = cc in
    let description = consistent.described_alike y.key x.description y.description
    (subst (λ q. Describes uses q x.description) key h.0) k.0 in
    let rest = described_once uses consistent xs ys (ap (drop 1) e) h.1 k.1 in
    λ i. record { key = key i; description = description i } ∷ rest i
described_once uses consistent xs ys e h k = absurd cc
