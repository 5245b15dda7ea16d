use Rattle.gf_form.proofs.Common.{dedup_from, list_any, Visit, arith, dedup, Bool, List, refl, true}
use Rattle.gf_form.proofs.Common.{◌∙◌, ◌∷◌, ◌≡◌, [], ap}
use Rattle.std.proofs.lemmas.List.Filters.{dedup_is}
use Rattle.gf_form.proofs.reduced.visits.drop_repeats.Goals as goal

-- what a test finds is found again if neighbours that are equal are kept once
module _ (same : Visit → Visit → Bool) (equal : (v w : Visit) → same v w ≡ true → v ≡ w)
    (test : Visit → Bool) where
  once_from : (v : Visit) (vs : List Visit)
      → list_any test (dedup_from same v vs) ≡ list_any test (v ∷ vs)
  once_from v [] = refl
  once_from v (w ∷ vs) = grind (arith, equal w v, once_from v vs, once_from w vs)

  each_once : (vs : List Visit) → list_any test (dedup same vs) ≡ list_any test vs
  each_once [] = refl
  each_once (v ∷ vs) = once_from v vs

pub returns : goal.returns
returns c test =
    ap (list_any test) (dedup_is _ _ _ c.dedup.ensures.filtered)
    ∙ each_once _ (λ v w e. grind arith) test _
