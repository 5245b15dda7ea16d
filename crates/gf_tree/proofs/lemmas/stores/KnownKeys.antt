-- Which keys are known after some uses, and what the next use says.
use Rattle.gf_tree.proofs.Common.{first_use_number, description_at, not_from_false, filter-append}
use Rattle.gf_tree.proofs.Common.{length-append, slice_get-map, append_assoc, append-nil, Described}
use Rattle.gf_tree.proofs.Common.{first_uses, slice_get, use_after, use_with, eq-eqb, filter, arith}
use Rattle.gf_tree.proofs.Common.{length, false, Bool, List, Some, refl, true, zero, ◌++◌, ◌==◌, []}
use Rattle.gf_tree.proofs.Common.{map, max, not, suc, sym, ◌+◌, ◌<◌, ◌∙◌, ◌∷◌, ◌≡◌, ap, ℕ}
use Rattle.std.specs.List.{list_any}
use Rattle.std.proofs.Math.Nat.{max-eq_left}
use Rattle.std.proofs.lemmas.Bool.{ne_eqb}
use Rattle.gf_tree.proofs.lemmas.games.FirstUseNumbers.{number_at, placed}
use Rattle.gf_tree.proofs.lemmas.games.FirstUses.{first_uses_distinct}
use Rattle.gf_tree.proofs.lemmas.games.Lookups.{entry_at}
use Rattle.gf_tree.proofs.lemmas.games.Members.{filter_last, has_at}
use Rattle.gf_tree.proofs.lemmas.games.Uses.{Has, IsEquality}

-- ---- an item at its place

pub around : {A : Type 0} (xs : List A) (k : ℕ) (x : A) → slice_get xs k ≡ Some x
    → (front back : List A) × (xs ≡ front ++ x ∷ back) × (length front ≡ k)
around (y ∷ xs) zero x h = let e : y ≡ x = cc in ([], xs, ap (λ z. z ∷ xs) e, refl)
around (y ∷ xs) (suc k) x h =
    let r = around xs k x h in (y ∷ r.0, r.1, ap (λ zs. y ∷ zs) r.2, ap suc r.3)
around xs k x h = grind arith

module _ {K : Type 0} (same : K → K → Bool) (tells : IsEquality same) where
  -- ---- a key that was used and one that was not

  pub used_before : (before : List K) (key : K) → list_any (same key) before ≡ true → Has before key
  used_before [] key h = absurd cc
  used_before (b ∷ before) key h = grind (arith, used_before before key)

  -- the keys that are used first stay so when more are used
  first_uses_more : (before after : List K) → (more : List K)
      × (first_uses same (before ++ after) ≡ first_uses same before ++ more)
  first_uses_more [] after = (first_uses same after, refl)
  first_uses_more (b ∷ before) after =
      let r = first_uses_more before after in
      let others : K → Bool = λ k. not (same b k) in (
        filter others r.0,
        ap (λ ks. b ∷ filter others ks) r.1
            ∙ ap (λ ks. b ∷ ks) (filter-append others (first_uses same before) r.0),
      )

  -- the keys that are known then
  abbrev pub more_known : Bool → List K → K → List K
  more_known true ks key = ks
  more_known false ks key = ks ++ key ∷ []

  pub known_more : (before : List K) (key : K) → first_uses same (before ++ key ∷ [])
      ≡ more_known (list_any (same key) before) (first_uses same before) key
  known_more [] key = refl
  known_more (b ∷ before) key =
      grind (arith, known_more before key, filter-append, append-nil, filter_last, not_from_false)

  -- ---- the use at a position

  module _ {D : Type 0} (known : List (Described K D)) (before after : List K) (k : ℕ)
      (d : Described K D) (all : map (λ e. e.key) known ≡ first_uses same (before ++ d.key ∷ after))
      (there : slice_get known k ≡ Some d) where
    -- its key is the next one after k keys
    number_there : first_use_number same (before ++ d.key ∷ after) d.key ≡ k + 1
    number_there =
        let r = around (map (λ (e : Described K D). e.key) known) k d.key
        (cc (slice_get-map (λ (e : Described K D). e.key) known k, there)) in
        cc (number_at same tells (before ++ d.key ∷ after) r.0 r.1 d.key (sym all ∙ r.2), r.3)

    number_again : list_any (same d.key) before ≡ true → k < length (first_uses same before)
    number_again h =
        let p = placed same tells before d.key (used_before before d.key h) in
        let r = first_uses_more before (d.key ∷ after) in
        let whole = r.1 ∙ ap (λ ks. ks ++ r.0) p.2 ∙ append_assoc p.0 (d.key ∷ p.1) r.0 in
        let number = number_at same tells (before ++ d.key ∷ after) p.0 (p.1 ++ r.0) d.key whole in
        let sizes = ap length p.2 ∙ length-append p.0 (d.key ∷ p.1) in
        omega (arith, number, number_there, sizes)

    number_new : list_any (same d.key) before ≡ false → k ≡ length (first_uses same before)
    number_new h =
        let r = first_uses_more (before ++ d.key ∷ []) after in
        let known : first_uses same (before ++ d.key ∷ []) ≡ first_uses same before ++ d.key ∷ [] =
        rw h at (known_more before d.key) in
        let whole = ap (first_uses same) (sym (append_assoc before (d.key ∷ []) after)) ∙ r.1
        ∙ ap (λ ks. ks ++ r.0) known ∙ append_assoc (first_uses same before) (d.key ∷ []) r.0 in
        let number =
        number_at same tells (before ++ d.key ∷ after) (first_uses same before) r.0 d.key whole in
        omega (arith, number, number_there)

    description_there : description_at same known d.key ≡ Some d.description
    description_there = grind (arith, entry_at, first_uses_distinct, has_at)

    pub use_there : use_after same (description_at same known) before d.key
        ≡ use_with d.key (suc k == suc (length (first_uses same before))) d.description
    use_there = by (list_any (same d.key) before) refl
      where
        by : (b : Bool) → list_any (same d.key) before ≡ b
            → use_after same (description_at same known) before d.key
            ≡ use_with d.key (suc k == suc (length (first_uses same before))) d.description
        by b h = grind (arith, number_again, ne_eqb, eq-eqb, number_new, description_there)

    pub known_there : length (first_uses same (before ++ d.key ∷ []))
        ≡ max (length (first_uses same before)) (suc k)
    known_there = by (list_any (same d.key) before) refl
      where
        by : (b : Bool) → list_any (same d.key) before ≡ b
            → length (first_uses same (before ++ d.key ∷ []))
            ≡ max (length (first_uses same before)) (suc k)
        by true h =
            (cc (known_more before d.key))
            ∙ sym (max-eq_left {n = length (first_uses same before)} {m = suc k} (number_again h))
        by false h =
            let next = number_new h in
            let more : length (first_uses same before ++ d.key ∷ []) ≡ suc k =
            length-append (first_uses same before) (d.key ∷ []) ∙ omega (arith, next) in
            (cc (known_more before d.key)) ∙ more
            ∙ grind arith
