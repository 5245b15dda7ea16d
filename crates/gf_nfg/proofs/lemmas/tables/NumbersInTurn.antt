-- Numbers in turn, and the place of an element in a list.
use Rattle.gf_nfg.proofs.Common.{◌≡◌, ℕ, zero, suc, ◌+◌, ◌-◌, ◌<◌, ◌≤◌, List, ◌∷◌, ◌++◌, length}
use Rattle.gf_nfg.proofs.Common.{get_or, refl, ap, arith, length-append, Contains, get_or_at}
use Rattle.gf_nfg.proofs.Common.{numbers_from}

pub numbers_joined : (first m n : ℕ)
    → numbers_from first m ++ numbers_from (first + m) n ≡ numbers_from first (m + n)
numbers_joined first zero n = grind arith
numbers_joined first (suc m) n =
    let e : first + suc m ≡ first + 1 + m = omega arith in
    let f : suc m + n ≡ suc (m + n) = omega arith in
    rw (e, f) (ap (λ (ns : List ℕ). first ∷ ns) (numbers_joined (first + 1) m n))

pub length-numbers_from : (first n : ℕ) → length (numbers_from first n) ≡ n
length-numbers_from first zero = refl
length-numbers_from first (suc n) = ap suc (length-numbers_from (first + 1) n)

pub get_or-numbers_from : (first n i d : ℕ) → i < n → get_or (numbers_from first n) i d ≡ first + i
get_or-numbers_from first (suc n) (suc i) d h = grind (arith, get_or-numbers_from (first + 1) n)
get_or-numbers_from first n i d h = grind arith

-- an element, by what stands before it and after it
abbrev pub IsIn : {X : Type 0} → List X → X → Type 0
IsIn {X} xs x = (before after : List X) × (xs ≡ before ++ x ∷ after)

pub number_in : (first n s : ℕ) → first ≤ s → s < first + n → IsIn (numbers_from first n) s
number_in first n s h k =
    let a = s - first in
    let f : first + a ≡ s = omega arith in
    grind (arith, numbers_joined first a (suc (n - a - 1)))

pub contains_in : {X : Type 0} (xs : List X) (x : X) → IsIn xs x → Contains xs x
contains_in xs x h = grind (arith, length-append, get_or_at h.0 x h.1 x (length h.0) refl)
