use Rattle.gf_form.proofs.lemmas.strategies.StrategiesByNumber.{Goes}
use Rattle.gf_form.proofs.strategies.numbered.write_strategy.Given as goal

abbrev pub invariant-loop-count : goal.invariant-loop-count
invariant-loop-count l = Goes l.counts l.number l.count-index l.stride l.rest l.strategy.items
