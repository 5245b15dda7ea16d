use Rattle.gf_form.proofs.Common.{ArePositive, strides_of, product, reverse, List, drop, ◌++◌, ◌<◌}
use Rattle.gf_form.proofs.Common.{◌^◌, ◌≡◌, ℕ}
use Rattle.gf_form.proofs.rows.digits.strides.Given as goal

abbrev pub invariant-loop-place : goal.invariant-loop-place
invariant-loop-place l = (later : List ℕ) → l.faster ≡ product later
    → ArePositive (l.actions ++ later) → product (l.actions ++ later) < 2 ^ 32
    → (reverse l.strides.items ++ strides_of later ≡ strides_of (drop l.place l.actions ++ later))
    × (l.choices ≡ product (drop l.place l.actions ++ later))
