use Rattle.gf_nfg.proofs.Common.{◌≡◌, ◌+◌, drop, length, lines_with}
use Rattle.gf_nfg.proofs.text.lines.Lines.len_of.Given as goal

abbrev pub invariant-loop-number : goal.invariant-loop-number
invariant-loop-number l =
    l.len + length (lines_with l.self (drop l.number-index l.numbers))
    ≡ length (lines_with l.self l.numbers)
