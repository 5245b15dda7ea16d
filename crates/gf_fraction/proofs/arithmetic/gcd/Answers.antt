use Rattle.std.proofs.Common.{arith, subst, sym, ◌≡◌}
use Rattle.std.specs.Int.{IsGcd}
use Rattle.std.proofs.lemmas.Nat.Gcd.{IsGcd-from_zero, IsGcd-from_mod}
use Rattle.gf_fraction.proofs.Divisors.{IsGcd-one_left, IsGcd-one_right}
use Rattle.gf_fraction.proofs.arithmetic.gcd.Goals as goal
use Rattle.gf_fraction.proofs.arithmetic.gcd.Goals.{then-a-eq1-via-then-a-eq1}
use Rattle.gf_fraction.proofs.arithmetic.gcd.Goals.{then-a-eq1-via-else-a-eq1+then-b-eq1}

pub returns-then-a-eq1 : goal.returns-then-a-eq1
returns-then-a-eq1 c =
    elim c.then-a-eq1.branch [
      | then-a-eq1-via-then-a-eq1 w ↦
          let one : c.args.a ≡ 1 = omega arith in rw one (IsGcd-one_left c.args.b)
      | then-a-eq1-via-else-a-eq1+then-b-eq1 w ↦
          let one : c.args.b ≡ 1 = omega arith in rw one (IsGcd-one_right c.args.a)
    ]

pub returns-then-y-eq0 : goal.returns-then-y-eq0
returns-then-y-eq0 c = c.loop-x.invariant _ (IsGcd-from_zero _ _ (omega arith))

pub loop-x-preserved : goal.loop-x-preserved
loop-x-preserved c g h = grind (arith, IsGcd-from_mod)

pub returns : goal.returns
returns c = subst (λ g. IsGcd c.args.a c.args.b g) (sym c.from.ensures)
    (c.loop-x.invariant _ c.word_gcd.ensures)
