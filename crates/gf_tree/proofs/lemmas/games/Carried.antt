-- Finite maps whose keys are carried to others.
use Rattle.gf_tree.proofs.Common.{◌≡◌, Bool, true, false, List, [], ◌∷◌, map, refl, sym, ap, subst}
use Rattle.gf_tree.proofs.Common.{◌∙◌, inl, inr, arith, both_ways, Described, description_at}
use Rattle.gf_tree.proofs.Common.{first_uses, cases_Bool, find}
use Rattle.std.specs.Prelude.{unwrap_or}
use Rattle.gf_tree.proofs.lemmas.games.Members.{map_same, map_twice}
use Rattle.gf_tree.proofs.lemmas.games.FirstUses.{AreDistinct, was_used, is_used}
use Rattle.gf_tree.proofs.lemmas.games.FirstUses.{first_uses_distinct}
use Rattle.gf_tree.proofs.lemmas.games.FirstUseNumbers.{same_tests, AreApart, first_uses_of_map}
use Rattle.gf_tree.proofs.lemmas.games.Lookups.{keys, at_images, lookup_image, same_map}
use Rattle.gf_tree.proofs.lemmas.games.Uses.{Has, has_map, mapped_from, IsEquality}

pub of_keys : {K D : Type 0} (same : K → K → Bool) (us : List K) (es : List (Described K D)) (k : K)
    → keys es ≡ first_uses same us → Has (keys es) k → Has us k
of_keys same us es k q i = was_used same us k (subst (λ ks. Has ks k) q i)

pub entry_used : {K D : Type 0} (same : K → K → Bool) (us : List K) (es : List (Described K D))
    (e : Described K D) → keys es ≡ first_uses same us → Has es e → Has us e.key
entry_used same us es e q i =
    of_keys same us es e.key q (has_map (λ (d : Described _ _). d.key) es e i)

pub in_keys : {K D : Type 0} (same : K → K → Bool) → IsEquality same → (us : List K)
    (es : List (Described K D)) (k : K) → keys es ≡ first_uses same us → Has us k → Has (keys es) k
in_keys same tells us es k q i = subst (λ ks. Has ks k) (sym q) (is_used same tells us k i)

pub image_keys : {K D : Type 0} (same : K → K → Bool)
    → IsEquality same → (f : K → K) (us : List K) (es : List (Described K D)) → AreApart f us
    → keys es ≡ first_uses same us → keys (at_images f es) ≡ first_uses same (map f us)
image_keys same tells f us es apart q =
    map_twice (λ e. e.key) (λ e. record { key = f e.key; description = e.description }) es
    ∙ sym (map_twice f (λ e. e.key) es) ∙ ap (map f) q
    ∙ sym (first_uses_of_map same same tells tells f us apart)

pub image_lookup : {K D : Type 0} (same : K → K → Bool) → IsEquality same → (f : K → K)
    (us : List K) (es : List (Described K D)) (k : K) → AreApart f us → keys es ≡ first_uses same us
    → Has us k → description_at same (at_images f es) (f k) ≡ description_at same es k
image_lookup same tells f us es k apart q i = grind (arith, lookup_image, same_tests, of_keys)

-- if each key and its image have the same description, one map is the other at the images
pub carried_map : {K D : Type 0} (same : K → K → Bool)
    → IsEquality same → (f : K → K) (us : List K) (es fs : List (Described K D)) → AreApart f us
    → keys es ≡ first_uses same us → keys fs ≡ first_uses same (map f us)
    → ((k : K) → Has us k → description_at same es k ≡ description_at same fs (f k))
    → at_images f es ≡ fs
carried_map {K} same tells f us es fs apart q p h =
    same_map same tells (at_images f es) fs (image ∙ sym p)
    (subst AreDistinct (sym image) (first_uses_distinct same tells (map f us))) lookups
  where
    image : keys (at_images f es) ≡ first_uses same (map f us)
    image = image_keys same tells f us es apart q

    lookups : (k : K) → Has (keys (at_images f es)) k
        → description_at same (at_images f es) k ≡ description_at same fs k
    lookups k i =
        let o = mapped_from f us k (was_used same (map f us) k (subst (λ ks. Has ks k) image i)) in
        grind (arith, o.2, lookup_image, same_tests, of_keys, h o.0 o.1)

pub at_images_itself : {K D : Type 0} (es : List (Described K D)) → at_images (λ k. k) es ≡ es
at_images_itself [] = refl
at_images_itself (e ∷ es) = λ i. e ∷ at_images_itself es i

pub at_images_twice : {K D : Type 0} (f g : K → K) (es : List (Described K D))
    → at_images g (at_images f es) ≡ at_images (λ k. g (f k)) es
at_images_twice f g es = grind (arith, map_twice)

pub at_images_same : {K D : Type 0} (f g : K → K) (es : List (Described K D))
    → ((k : K) → Has (keys es) k → f k ≡ g k) → at_images f es ≡ at_images g es
at_images_same f g es h = map_same (λ e. record { key = f e.key; description = e.description })
    (λ e. record { key = g e.key; description = e.description }) es
    (λ e i j. record { key = h e.key (has_map (λ d. d.key) es e i) j; description = e.description })

-- ---- back from the images

-- the first of these keys with this image, or the key itself if there is none
abbrev pub undo : {K : Type 0} → (K → K → Bool) → (K → K) → List K → K → K
undo same f us key = unwrap_or (find (λ u. same (f u) key) us) key

pub undone : {K : Type 0} (same : K → K → Bool) → IsEquality same
    → (f : K → K) (us : List K) (k : K) → AreApart f us → Has us k → undo same f us (f k) ≡ k
undone same tells f [] k apart i = absurd i
undone {K} same tells f (u ∷ us) k apart i = elim (cases_Bool (same (f u) (f k))) [
  | inl e ↦ here e
  | inr e ↦ there e (undone same tells f us k (λ a b j l. apart a b (inr j) (inr l)) (grind (arith, both_ways)))
]
  where
    here : same (f u) (f k) ≡ true → undo same f (u ∷ us) (f k) ≡ k
    here e = rw e (apart u k (inl refl) i ((tells (f u) (f k)).0 e))

    there : same (f u) (f k) ≡ false → undo same f us (f k) ≡ k → undo same f (u ∷ us) (f k) ≡ k
    there e h = rw e h

-- what is undone was told apart
pub undone_apart : {K L : Type 0} (f : K → L) (g : L → K) (us : List K)
    → ((k : K) → Has us k → g (f k) ≡ k) → AreApart g (map f us)
undone_apart f g us h a b i j e = grind (arith, mapped_from)

pub apart_twice : {K L M : Type 0} (f : K → L) (g : L → M) (us : List K)
    → AreApart f us → AreApart g (map f us) → AreApart (λ k. g (f k)) us
apart_twice f g us h k a b i j e = h a b i j (k (f a) (f b) (has_map f us a i) (has_map f us b j) e)
