use Rattle.gf_nfg.proofs.Common.{◌≡◌, ◌++◌, drop, Keeps}
use Rattle.gf_nfg.proofs.lemmas.tables.LabelLists.{dashes}
use Rattle.gf_nfg.proofs.table.labels.write_dashed.Given as goal

abbrev pub invariant-loop-part : goal.invariant-loop-part
invariant-loop-part l =
    (l.bytes.items ++ dashes (drop l.part-index l.parts) ≡ l.initial.bytes.items ++ dashes l.parts)
    × Keeps l.fn.bytes.items l.bytes.items
