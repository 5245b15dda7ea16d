use Rattle.std.proofs.Common.{◌≡◌, arith, refl, subst, sym}
use Rattle.std.specs.Int.{IsGcd}
use Rattle.std.proofs.lemmas.Nat.Gcd.{dvd_refl}
use Rattle.gf_fraction.proofs.Divisors.{IsGcd-one_left}
use Rattle.gf_fraction.proofs.OddParts.{led_on, odd_part}
use Rattle.gf_fraction.proofs.arithmetic.odd_gcd.Goals as goal

pub loop-x-preserved : goal.loop-x-preserved
loop-x-preserved c =
    let apart = c.abs_diff-apart.result in
    led_on _ _ c.loop-x.x c.loop-x.y apart _ _ c.min-x.result c.loop-x.invariant
    (odd_part apart _ (omega arith) (omega arith) refl) c.abs_diff-apart.ensures c.min-x.ensures

pub returns-else-x-y : goal.returns-else-x-y
returns-else-x-y c =
    let same : c.loop-x.y ≡ c.loop-x.x = omega arith in
    c.loop-x.invariant.2 _
    (subst (λ k. IsGcd c.loop-x.x k c.loop-x.x) (sym same) (dvd_refl _, dvd_refl _, λ d p q. p))

pub returns-after-loop-x : goal.returns-after-loop-x
returns-after-loop-x c =
    let one : c.loop-x.x ≡ 1 = omega (arith, c.loop-x.invariant.0) in
    c.loop-x.invariant.2 _ (rw one (IsGcd-one_left c.loop-x.y))
