use Rattle.std.proofs.Common.{◌≡◌, take}
use Rattle.gf_nfg.proofs.table.agree.same_rows.Given as goal

abbrev pub invariant-loop-place : goal.invariant-loop-place
invariant-loop-place l = take l.place l.a ≡ take l.place l.b
