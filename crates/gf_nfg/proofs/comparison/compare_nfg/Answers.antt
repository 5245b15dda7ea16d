use Rattle.gf_nfg.proofs.comparison.compare_nfg.Goals as goal

pub returns-clause-same : goal.returns-clause-same
returns-clause-same c = c.in_ok-same.ensures c.args.input.now
    (rw c.new-comparison.ensures.left at c.in_ok-heading.ensures.told)
