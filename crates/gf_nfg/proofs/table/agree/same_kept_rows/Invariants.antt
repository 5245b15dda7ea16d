use Rattle.gf_nfg.proofs.lemmas.tables.Classes.{IsCompared}
use Rattle.gf_nfg.proofs.table.agree.same_kept_rows.Given as goal

abbrev pub invariant-loop-place : goal.invariant-loop-place
invariant-loop-place l = IsCompared l.left l.right l.a l.b l.classes l.place
