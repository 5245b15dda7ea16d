use Rattle.gf_form.proofs.Common.{arith, sym, one-dvd}
use Rattle.std.proofs.Math.Nat.{div-one}
use Rattle.gf_form.proofs.rows.sums.factor.Goals as goal

pub returns-then-from-eq1 : goal.returns-then-from-eq1
returns-then-from-eq1 c = rw c.if-from-eq1.true (record {
  above = omega arith;
  divides = one-dvd c.args.den;
  factor_is = sym (div-one c.args.den);
})
