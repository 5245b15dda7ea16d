use Rattle.std.proofs.Common.{arith}
use Rattle.std.proofs.lemmas.Grind.{common_steps}
use Rattle.gf_fraction.specs.NumberText.{number_text}
use Rattle.gf_fraction.proofs.write.write_wide.Goals as goal

pub returns-then-den-eq1-clause-ok : goal.returns-then-den-eq1-clause-ok
unfolding number_text
returns-then-den-eq1-clause-ok c = grind (arith, common_steps)

pub returns-in_err-extend_from_slice : goal.returns-in_err-extend_from_slice
returns-in_err-extend_from_slice c = grind (arith, common_steps)
