use Rattle.std.proofs.Common.{arith}
use Rattle.gf_fraction.proofs.arithmetic.sum_over.Goals as goal

pub returns-in_err-den : goal.returns-in_err-den
returns-in_err-den c = grind arith

pub returns-in_err-left : goal.returns-in_err-left
returns-in_err-left c = grind arith

pub returns-in_err-right : goal.returns-in_err-right
returns-in_err-right c = grind arith
