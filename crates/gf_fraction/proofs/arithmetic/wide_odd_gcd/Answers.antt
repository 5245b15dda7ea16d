use Rattle.std.proofs.Common.{◌≡◌, arith, subst, sym}
use Rattle.std.specs.Int.{IsGcd}
use Rattle.std.proofs.lemmas.Nat.Gcd.{dvd_refl}
use Rattle.gf_fraction.proofs.OddParts.{led_on}
use Rattle.gf_fraction.proofs.arithmetic.wide_odd_gcd.Goals as goal

pub loop-x-preserved : goal.loop-x-preserved
loop-x-preserved c =
    led_on _ _ c.loop-x.x c.loop-x.y c.abs_diff-apart.result _ _ c.min-x.result c.loop-x.invariant
    (record { odd = c.odd_part-y.ensures.odd; parts = c.odd_part-y.ensures.parts.1 })
    c.abs_diff-apart.ensures c.min-x.ensures

pub returns-then-apart-eq0 : goal.returns-then-apart-eq0
returns-then-apart-eq0 c =
    let same : c.loop-x.y ≡ c.loop-x.x = omega arith in
    c.loop-x.invariant.2 _
    (subst (λ k. IsGcd c.loop-x.x k c.loop-x.x) (sym same) (dvd_refl _, dvd_refl _, λ d p q. p))

pub returns : goal.returns
returns c =
    subst (IsGcd c.args.a c.args.b) (sym c.from.ensures) (c.loop-x.invariant.2 _ c.odd_gcd.ensures)
