-- The entries of a map, if keys are added.
use Rattle.gf_tree.proofs.Common.{◌≡◌, ℕ, ◌+◌, Bool, false, List, [], ◌∷◌, ◌++◌, None, refl, ap, ◌∙◌}
use Rattle.gf_tree.proofs.Common.{AllByRecursion, arith, position, position_from, position_from-zero, sym}
use Rattle.std.specs.Cmp.{IsEquivalence}
use Rattle.std.specs.List.{IsDistinct}
use Rattle.std.specs.Map.{keys_of}
use Rattle.gf_tree.proofs.Common.{Some, slice_get, true}
use Rattle.indexmap.proofs.MapLemmas.{index-first}
use Rattle.indexmap.proofs.RemoveLemmas.{own_first}
use Rattle.indexmap.specs.IndexMap.{insert_all, insert_entry}

module _ {K V : Type 0} (eq : K → K → Bool) (key : K) (value : V) where
  last_from : (es : List (K × V)) (start : ℕ) → position_from (eq key) start (keys_of es) ≡ None
      → insert_entry eq es key value ≡ es ++ (key, value) ∷ []
  last_from [] start none = refl
  last_from (e ∷ es) start none = grind (arith, last_from es (start + 1))

  -- a key that is absent goes last
  pub goes_last : (es : List (K × V)) → position (eq key) (keys_of es) ≡ None
      → insert_entry eq es key value ≡ es ++ (key, value) ∷ []
  goes_last es none = last_from es 0 (sym (position_from-zero (eq key) (keys_of es)) ∙ none)

module _ {K V : Type 0} (eq : K → K → Bool) (laws : IsEquivalence eq) where
  -- other keys go past the first entry
  past : (e : K × V) (front es : List (K × V)) → AllByRecursion (λ k. eq e.0 k ≡ false) (keys_of es)
      → insert_all eq (e ∷ front) es ≡ e ∷ insert_all eq front es
  past e front [] all = refl
  past e front (f ∷ fs) all =
      let other : eq f.0 e.0 ≡ false = laws.symm f.0 e.0 ∙ all.0 in
      rw other (past e (insert_entry eq front f.0 f.1) fs all.1)

  pub moved : (es : List (K × V)) → IsDistinct eq (keys_of es) → insert_all eq [] es ≡ es
  unfolding IsDistinct
  moved [] d = refl
  moved (e ∷ es) d = past e [] es d.0 ∙ ap (λ xs. e ∷ xs) (moved es d.1)

  -- a key is found where it stands
  pub stands : (es : List (K × V)) (place : ℕ) (key there : K) (value : V)
      → IsDistinct eq (keys_of es) → slice_get es place ≡ Some (there, value)
      → eq there key ≡ true → position (eq key) (keys_of es) ≡ Some place
  stands es place key there value distinct at same =
      (λ j. position (λ k. sym (laws.congr there key k same) j) (keys_of es))
      ∙ index-first (eq there) es place (own_first eq laws es place there value distinct at)
