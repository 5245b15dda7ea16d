use Rattle.gf_nfg.proofs.Common.{◌≡◌, line_text, map, take}
use Rattle.gf_nfg.proofs.text.lines.Lines.of_rows.Given as goal

abbrev pub invariant-loop-number : goal.invariant-loop-number
invariant-loop-number l = l.lines ≡ map line_text (take l.number l.rows)
