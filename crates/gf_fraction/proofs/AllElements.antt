-- What holds for each element of a list, and for lists that are put together.
use Rattle.std.proofs.Common.{◌≡◌, ℕ, zero, suc, List, [], ◌∷◌, ◌++◌, map, Some, slice_get, subst}
use Rattle.std.specs.List.{AllByRecursion, flat_map}

pub all_weaker : {X : Type 0} (P Q : X → Type 0)
    → ((x : X) → P x → Q x) → (xs : List X) → AllByRecursion P xs → AllByRecursion Q xs
all_weaker P Q weaker [] h = tt
all_weaker P Q weaker (x ∷ xs) h = (weaker x h.0, all_weaker P Q weaker xs h.1)

pub all_parts : {X : Type 0} (P : X → Type 0) (xs ys : List X) → AllByRecursion P (xs ++ ys)
    → AllByRecursion P xs × AllByRecursion P ys
all_parts P [] ys h = (tt, h)
all_parts P (x ∷ xs) ys h = let k = all_parts P xs ys h.1 in ((h.0, k.0), k.1)

pub all_lists : {X : Type 0} (P : X → Type 0) (xss : List (List X))
    → AllByRecursion P (flat_map (λ xs. xs) xss) → AllByRecursion (λ xs. AllByRecursion P xs) xss
all_lists P [] h = tt
all_lists P (xs ∷ xss) h =
    let k = all_parts P xs (flat_map (λ ys. ys) xss) h in (k.0, all_lists P xss k.1)

pub all_both : {X : Type 0} (P : X → Type 0) (xs ys : List X)
    → AllByRecursion P xs → AllByRecursion P ys → AllByRecursion P (xs ++ ys)
all_both P [] ys h k = k
all_both P (x ∷ xs) ys h k = (h.0, all_both P xs ys h.1 k)

pub all_joined : {X : Type 0} (P : X → Type 0) (xss : List (List X))
    → AllByRecursion (λ xs. AllByRecursion P xs) xss → AllByRecursion P (flat_map (λ xs. xs) xss)
all_joined P [] h = tt
all_joined P (xs ∷ xss) h = all_both P xs (flat_map (λ ys. ys) xss) h.0 (all_joined P xss h.1)

pub all_mapped : {X Y : Type 0} (P : Y → Type 0) (f : X → Y) (xs : List X)
    → AllByRecursion P (map f xs) → AllByRecursion (λ x. P (f x)) xs
all_mapped P f [] h = tt
all_mapped P f (x ∷ xs) h = (h.0, all_mapped P f xs h.1)

pub all_images : {X Y : Type 0} (P : Y → Type 0) (f : X → Y) (xs : List X)
    → AllByRecursion (λ x. P (f x)) xs → AllByRecursion P (map f xs)
all_images P f [] h = tt
all_images P f (x ∷ xs) h = (h.0, all_images P f xs h.1)

pub all_at : {X : Type 0} (P : X → Type 0) (xs : List X) (k : ℕ) (x : X)
    → AllByRecursion P xs → slice_get xs k ≡ Some x → P x
all_at P [] k x h e = absurd cc
all_at P (y ∷ xs) zero x h e = let same : y ≡ x = cc in subst P same h.0
all_at P (y ∷ xs) (suc k) x h e = all_at P xs k x h.1 e
