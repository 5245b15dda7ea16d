use Rattle.gf_tree.proofs.Common.{sym, sum_of-some}
use Rattle.gf_fraction.proofs.Offered.{sum_of-none}
use Rattle.gf_tree.proofs.reader.readings.sum.Goals as goal

pub returns-in-Ok-clause-sum : goal.returns-in-Ok-clause-sum
returns-in-Ok-clause-sum c =
    sym (sum_of-some c.args.left c.args.right c.requires.left c.requires.right c.in-Ok.sum
    c.in-Ok.ensures.overflow c.in-Ok.ensures.sum.0 c.in-Ok.ensures.sum.1)

pub returns-in-Err-clause-sum : goal.returns-in-Err-clause-sum
returns-in-Err-clause-sum c = sym (sum_of-none c.args.left c.args.right c.requires.left
    c.requires.right c.in-Err.ensures.overflow)
