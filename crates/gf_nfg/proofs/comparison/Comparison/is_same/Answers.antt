use Rattle.gf_nfg.proofs.Common.{arith}
use Rattle.gf_nfg.proofs.lemmas.tables.Listed.{parts_kept, told_compared}
use Rattle.gf_nfg.proofs.comparison.Comparison.is_same.Goals as goal

pub returns-in-Payoffs : goal.returns-in-Payoffs
returns-in-Payoffs c = λ bytes h. grind (arith, told_compared c.args.t.now _ _ _ h c.args.names)

pub returns-in-Outcomes : goal.returns-in-Outcomes
returns-in-Outcomes c = λ bytes h. grind (arith, parts_kept c.args.t.now _ _ _ h)
