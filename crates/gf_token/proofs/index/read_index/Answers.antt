use Rattle.std.proofs.Common.{arith}
use Rattle.std.proofs.Math.Nat.{pow-le-pow_right}
use Rattle.std.proofs.lemmas.Bool.{cases_lt}
use Rattle.std.proofs.lemmas.Grind.{pow_more}
use Rattle.std.proofs.lemmas.Str.Parse.{digit_at}
use Rattle.std.proofs.lemmas.Int.Digits.{digits_more, digits_value_more}
use Rattle.gf_token.proofs.index.read_index.Goals as goal

pub returns-in_default : goal.returns-in_default
returns-in_default c = grind (arith, digit_at)

pub overflow_mul-value : goal.overflow_mul-value
overflow_mul-value c =
    grind (arith, cases_lt, pow-le-pow_right)

pub overflow_add-value : goal.overflow_add-value
overflow_add-value c =
    grind (arith, cases_lt, pow-le-pow_right)

pub loop-byte-preserved : goal.loop-byte-preserved
loop-byte-preserved c = grind (arith, digits_value_more, digits_more, pow_more)
