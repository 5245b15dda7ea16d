-- Keys in order of first use, and their numbers.
use Rattle.gf_tree.proofs.Common.{first_use_number, length-append, cases_Bool, first_uses, filter}
use Rattle.gf_tree.proofs.Common.{get_or, length, arith, subst, Bool, List, cond, refl, ◌++◌, inl}
use Rattle.gf_tree.proofs.Common.{inr, map, not, sym, ◌+◌, ◌∙◌, ◌∷◌, ◌≡◌, ◌≤◌, [], ap}
use Rattle.std.specs.List.{position_or_len}
use Rattle.std.proofs.lemmas.List.{get_or_at}
use Rattle.std.proofs.lemmas.Bool.Decides.{same_from_decides}
use Rattle.gf_tree.proofs.lemmas.games.Members.{filter_of_map}
use Rattle.gf_tree.proofs.lemmas.games.FirstUses.{is_used, was_used, first_uses_distinct}
use Rattle.gf_tree.proofs.lemmas.games.FirstUses.{AreDistinct}
use Rattle.gf_tree.proofs.lemmas.games.Uses.{Has, IsEquality, has_place}

-- tests of keys and of their images answer alike if the images are equal only for equal keys
pub same_tests : {K L : Type 0} (same : K → K → Bool) (same' : L → L → Bool) → IsEquality same
    → IsEquality same' → (f : K → L) (a b : K) → (f a ≡ f b → a ≡ b) → same' (f a) (f b) ≡ same a b
same_tests same same' t t' f a b apart = grind (arith, same_from_decides)

-- ---- images

-- no two of these keys have one image
abbrev pub AreApart : {K L : Type 0} → (K → L) → List K → Type 0
AreApart {K} f ks = (a b : K) → Has ks a → Has ks b → f a ≡ f b → a ≡ b

pub first_uses_of_map : {K L : Type 0} (same : K → K → Bool) (same' : L → L → Bool)
    → IsEquality same → IsEquality same' → (f : K → L) (ks : List K) → AreApart f ks
    → first_uses same' (map f ks) ≡ map f (first_uses same ks)
first_uses_of_map same same' t t' f [] apart = refl
first_uses_of_map same same' t t' f (k ∷ ks) apart =
    ap (λ ls. f k ∷ filter (λ l. not (same' (f k) l)) ls)
    (first_uses_of_map same same' t t' f ks (λ a b i j. apart a b (inr i) (inr j)))
    ∙ ap (λ ls. f k ∷ ls)
    (filter_of_map (λ l. not (same' (f k) l)) (λ x. not (same k x)) f (first_uses same ks) (λ x i.
    ap not (same_tests same same' t t' f k x (apart k x (inl refl) (inr (was_used same ks x i))))))

-- an image is at the place of its key
place_of_image : {K L : Type 0} (same : K → K → Bool) (same' : L → L → Bool) (f : K → L) (key : K)
    (ks : List K) → ((x : K) → Has ks x → same' (f key) (f x) ≡ same key x)
    → position_or_len (same' (f key)) (map f ks) ≡ position_or_len (same key) ks
place_of_image same same' f key [] h = refl
place_of_image same same' f key (x ∷ ks) h = λ i.
    cond (not (h x (inl refl) i)) (1 + place_of_image same same' f key ks (λ y j. h y (inr j)) i) 0

-- images of keys are used first in the order of the keys
pub number_kept : {K L : Type 0} (same : K → K → Bool) (same' : L → L → Bool) → IsEquality same
    → IsEquality same' → (f : K → L) (ks : List K) (key : K) → AreApart f ks → Has ks key
    → first_use_number same' (map f ks) (f key) ≡ first_use_number same ks key
number_kept same same' t t' f ks key apart i =
    ap (λ ls. position_or_len (same' (f key)) ls + 1) (first_uses_of_map same same' t t' f ks apart)
    ∙ ap (λ n. n + 1) (place_of_image same same' f key (first_uses same ks) (λ x j.
    same_tests same same' t t' f key x (apart key x i (was_used same ks x j))))

-- ---- places

-- what is before an item and after it
parted : {K : Type 0} (ks : List K) (key : K) → Has ks key
    → (before after : List K) × (ks ≡ before ++ key ∷ after)
parted [] key h = absurd h
parted (k ∷ ks) key (inl e) = ([], ks, ap (λ x. x ∷ ks) e)
parted (k ∷ ks) key (inr h) =
    let r = parted ks key h in (k ∷ r.0, r.1, ap (λ xs. k ∷ xs) r.2)

module _ {K : Type 0} (same : K → K → Bool) (tells : IsEquality same) where
  -- if the keys are distinct, each is at only one place
  place_at : (before after : List K) (key : K) → AreDistinct (before ++ key ∷ after)
      → position_or_len (same key) (before ++ key ∷ after) ≡ length before
  place_at [] after key h = rw ((tells key key).1 refl) refl
  place_at (b ∷ before) after key h = elim (cases_Bool (same key b)) [
    | inl e ↦ absurd (h.0 (subst (Has (before ++ key ∷ after)) ((tells key b).0 e)
        (has_place before after key)))
    | inr e ↦ rw e (ap (λ n. 1 + n) (place_at before after key h.1) ∙ omega arith)
  ]

  pub number_at : (ks before after : List K) (key : K) → first_uses same ks ≡ before ++ key ∷ after
      → first_use_number same ks key ≡ length before + 1
  number_at ks before after key e = ap (λ xs. position_or_len (same key) xs + 1) e
      ∙ ap (λ n. n + 1) (place_at before after key
      (subst AreDistinct e (first_uses_distinct same tells ks)))

  -- the keys that are used first before this one, and those that are so after it
  pub placed : (ks : List K) (key : K) → Has ks key
      → (before after : List K) × (first_uses same ks ≡ before ++ key ∷ after)
  placed ks key i = parted (first_uses same ks) key (is_used same tells ks key i)

  pub numbers_apart : (ks : List K) → AreApart (first_use_number same ks) ks
  numbers_apart ks a b i j e =
      let p = placed ks a i in
      let q = placed ks b j in
      let n = number_at ks p.0 p.1 a p.2 in
      let m = number_at ks q.0 q.1 b q.2 in
      let size : length p.0 ≡ length q.0 = omega (arith, e, n, m) in
      sym (get_or_at p.0 a p.1 a (length p.0) refl)
      ∙ ap (λ xs. get_or xs (length p.0) a) (sym p.2 ∙ q.2)
      ∙ get_or_at q.0 b q.1 a (length p.0) (sym size)

  pub number_at_most : (ks : List K) (key : K) → Has ks key
      → first_use_number same ks key ≤ length (first_uses same ks)
  number_at_most ks key i = grind (arith, placed, number_at, length-append)
