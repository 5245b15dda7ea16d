use Rattle.gf_nfg.proofs.lemmas.tables.Classes.{IsOnWay}
use Rattle.gf_nfg.proofs.table.classes.Classes.root.Given as goal

abbrev pub invariant-loop-at : goal.invariant-loop-at
invariant-loop-at l = IsOnWay l.fn.self l.self-inside.parents.items l.fn.place l.at

abbrev pub decreases-loop-at : goal.decreases-loop-at
decreases-loop-at l = l.at
