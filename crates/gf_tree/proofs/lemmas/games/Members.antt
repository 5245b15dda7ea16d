-- Lists, element by element.
use Rattle.gf_tree.proofs.Common.{◌≡◌, Bool, true, List, [], ◌∷◌, ◌++◌, map, refl, ap, inl, inr, ℕ}
use Rattle.gf_tree.proofs.Common.{zero, suc, ◌<◌, length, Some, slice_get, arith, filter, get_or}
use Rattle.gf_tree.proofs.Common.{AllByRecursion, filter-append}
use Rattle.gf_tree.proofs.lemmas.games.Uses.{Has}

pub map_same : {X Y : Type 0} (f g : X → Y) (xs : List X) → ((x : X) → Has xs x → f x ≡ g x)
    → map f xs ≡ map g xs
map_same f g [] h = refl
map_same f g (x ∷ xs) h = λ i. h x (inl refl) i ∷ map_same f g xs (λ y k. h y (inr k)) i

pub map_twice : {X Y Z : Type 0} (f : Y → Z) (g : X → Y) (xs : List X)
    → map f (map g xs) ≡ map (λ x. f (g x)) xs
map_twice f g [] = refl
map_twice f g (x ∷ xs) = ap (λ ys. f (g x) ∷ ys) (map_twice f g xs)

-- what is mapped to the same list is the same at each place
pub beside : {X Y Z : Type 0} (f : X → Z) (g : Y → Z) (xs : List X) (ys : List Y) (at : ℕ) (d : X)
    (e : Y) → map f xs ≡ map g ys → at < length xs → f (get_or xs at d) ≡ g (get_or ys at e)
beside f g (x ∷ xs) (y ∷ ys) (suc at) d e h i =
    let same : map f xs ≡ map g ys = cc in beside f g xs ys at d e same (omega (arith, i))
beside f g xs ys at d e h i = grind arith

-- what is in one of two lists is in both together
pub in_left : {X : Type 0} (xs ys : List X) (x : X) → Has xs x → Has (xs ++ ys) x
in_left [] ys x h = absurd h
in_left (y ∷ xs) ys x (inl e) = inl e
in_left (y ∷ xs) ys x (inr h) = inr (in_left xs ys x h)

pub in_right : {X : Type 0} (xs ys : List X) (x : X) → Has ys x → Has (xs ++ ys) x
in_right [] ys x h = h
in_right (y ∷ xs) ys x h = inr (in_right xs ys x h)

-- what stands at a place
pub something_there : {X : Type 0} (xs : List X) (place : ℕ) → place < length xs
    → (x : X) × (slice_get xs place ≡ Some x)
something_there [] place h = absurd (omega (arith, h))
something_there (y ∷ xs) zero h = (y, refl)
something_there (y ∷ xs) (suc place) h = something_there xs place (omega (arith, h))

pub has_at : {X : Type 0} (xs : List X) (place : ℕ) (x : X) → slice_get xs place ≡ Some x → Has xs x
has_at (y ∷ xs) (suc place) x h = inr (has_at xs place x h)
has_at xs place x h = grind arith

-- one more of a kind
pub all_more : {X : Type 0} (P : X → Type 0) (xs : List X) (x : X) → AllByRecursion P xs → P x
    → AllByRecursion P (xs ++ x ∷ [])
all_more P [] x h k = (k, tt)
all_more P (y ∷ xs) x h k = (h.0, all_more P xs x h.1 k)

-- ---- filters

-- a filter of images is the images of a filter
pub filter_of_map : {X Y : Type 0} (p : Y → Bool) (q : X → Bool) (f : X → Y) (xs : List X)
    → ((x : X) → Has xs x → p (f x) ≡ q x) → filter p (map f xs) ≡ map f (filter q xs)
filter_of_map p q f [] h = refl
filter_of_map p q f (x ∷ xs) h = grind (arith, filter_of_map p q f xs (λ y k. h y (inr k)))

-- the filter of these and of one that passes
pub filter_last : {X : Type 0} (p : X → Bool) (xs : List X) (y : X) (ys : List X) → p y ≡ true
    → filter p (xs ++ y ∷ ys) ≡ filter p xs ++ y ∷ filter p ys
filter_last p xs y ys e = rw (filter-append, e) refl

-- one filter and another, in any order
pub filter_swap : {X : Type 0} (p q : X → Bool) (xs : List X)
    → filter p (filter q xs) ≡ filter q (filter p xs)
filter_swap p q [] = refl
filter_swap p q (x ∷ xs) = grind (arith, filter_swap p q xs)

-- a filter that all of them pass
pub filter_all : {X : Type 0} (p : X → Bool) (xs : List X) → ((x : X) → Has xs x → p x ≡ true)
    → filter p xs ≡ xs
filter_all p [] h = refl
filter_all p (x ∷ xs) h = grind (arith, filter_all p xs (λ y i. h y (inr i)))
