-- What the maps of new numbers have at a set and at an outcome.
use Rattle.gf_canon.proofs.Common.{new_outcome_number, new_set_number, numbers_in, nat_tests, arith}
use Rattle.gf_canon.proofs.Common.{set_order, BTreeMap, same_set, nat_cmp, set_of, is_eq, ℕ}
use Rattle.gf_canon.proofs.Common.{List, Some, cond, refl, get, map, suc, ◌∷◌, ◌≡◌, []}
use Rattle.std.specs.Map.{lookup}

-- two pairs compare equal exactly when they are
pub same_pair : (a b : ℕ × ℕ) → is_eq (set_order a b) ≡ same_set (set_of a.0 a.1) (set_of b.0 b.1)
same_pair a b = grind (arith, nat_tests)

set_in : (es : List ((ℕ × ℕ) × ℕ)) (k : ℕ × ℕ) → lookup (λ e. is_eq (set_order k e)) es
    ≡ lookup (same_set (set_of k.0 k.1)) (map (λ e. (set_of e.0.0 e.0.1, e.1)) es)
set_in [] k = refl
set_in (e ∷ es) k = λ i. cond (same_pair k e.0 i) (Some e.1) (set_in es k i)

module _ (sets : BTreeMap (ℕ × ℕ) ℕ) (outcomes : BTreeMap ℕ ℕ) where
  pub kept_set : (player number : ℕ) → get set_order sets (player, number)
      ≡ new_set_number (numbers_in sets outcomes) player number
  kept_set player number = set_in sets.entries (player, number)

  pub kept_outcome : (n : ℕ) → get nat_cmp outcomes (suc n)
      ≡ new_outcome_number (numbers_in sets outcomes) (suc n)
  kept_outcome n = grind (arith, nat_tests)
