-- Finite maps by their look-ups.
use Rattle.gf_tree.proofs.Common.{false_from_ne_true, description_at, Described, arith, false, Bool}
use Rattle.gf_tree.proofs.Common.{subst, List, Some, refl, inl, inr, map, sym, ◌∙◌, ◌∷◌, ◌≡◌, []}
use Rattle.gf_tree.proofs.lemmas.games.FirstUses.{AreDistinct}
use Rattle.gf_tree.proofs.lemmas.games.Uses.{Has, IsEquality, has_map}

abbrev pub keys : {K D : Type 0} → List (Described K D) → List K
keys es = map (λ e. e.key) es

-- the same descriptions at the images of the keys
abbrev pub at_images : {K L D : Type 0} → (K → L) → List (Described K D) → List (Described L D)
at_images f es = map (λ e. record { key = f e.key; description = e.description }) es

pub lookup_image : {K L D : Type 0} (same : K → K → Bool)
    (same' : L → L → Bool) (f : K → L) (es : List (Described K D)) (key : K)
    → ((k : K) → Has (keys es) k → same' (f k) (f key) ≡ same k key)
    → description_at same' (at_images f es) (f key) ≡ description_at same es key
lookup_image same same' f [] key h = refl
lookup_image same same' f (e ∷ es) key h =
    grind (arith, lookup_image same same' f es key (λ k i. h k (inr i)))

-- if each key occurs once, a map is determined by its keys and by what it gives at each of them
pub same_map : {K D : Type 0} (same : K → K → Bool)
    → IsEquality same → (es fs : List (Described K D)) → keys es ≡ keys fs → AreDistinct (keys es)
    → ((k : K) → Has (keys es) k → description_at same es k ≡ description_at same fs k) → es ≡ fs
same_map same tells [] [] q d h = refl
same_map same tells [] (f ∷ fs) q d h = absurd cc
same_map same tells (e ∷ es) [] q d h = absurd cc
same_map {K} {D} same tells (e ∷ es) (f ∷ fs) q d h =
    let others = same_map same tells es fs rest d.1 (grind arith) in
    λ i. record { key = first i; description = described i } ∷ others i
  where
    first : e.key ≡ f.key
    first = cc

    rest : keys es ≡ keys fs
    rest = cc

    here : (g : Described K D) (gs : List (Described K D)) (k : K) → g.key ≡ k
        → description_at same (g ∷ gs) k ≡ Some g.description
    here g gs k p = rw ((tells g.key k).1 p) refl

    there : (g : Described K D) (gs : List (Described K D)) (k : K) → ¬ (g.key ≡ k)
        → description_at same (g ∷ gs) k ≡ description_at same gs k
    there g gs k p = rw (false_from_ne_true (same g.key k) (λ t. p ((tells g.key k).0 t))) refl

    some : Some e.description ≡ Some f.description
    some = sym (here e es e.key refl) ∙ h e.key (inl refl) ∙ here f fs e.key (sym (cc))

    described : e.description ≡ f.description
    described = let both : Some e.description ≡ Some f.description = some in cc

-- an entry is the description at its key
pub entry_at : {K D : Type 0} (same : K → K → Bool) → IsEquality same
    → (es : List (Described K D)) (e : Described K D) → AreDistinct (keys es) → Has es e
    → description_at same es e.key ≡ Some e.description
entry_at same tells [] e d h = absurd h
entry_at same tells (f ∷ es) e d (inl q) = grind arith
entry_at same tells (f ∷ es) e d (inr h) =
    let other : same f.key e.key ≡ false =
    false_from_ne_true (same f.key e.key) (λ t. d.0 (subst (Has (keys es))
    (sym ((tells f.key e.key).0 t)) (has_map (λ (x : Described _ _). x.key) es e h))) in
    rw other (entry_at same tells es e d.1 h)
