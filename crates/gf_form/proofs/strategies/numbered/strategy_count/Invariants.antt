use Rattle.gf_form.proofs.Common.{◌≡◌, take, product}
use Rattle.gf_form.proofs.strategies.numbered.strategy_count.Given as goal

abbrev pub invariant-loop-count : goal.invariant-loop-count
invariant-loop-count l = l.whole ≡ product (take l.count-index l.counts)
