use Rattle.std.proofs.Common.{◌≡◌, ◌-◌, length, drop}
use Rattle.gf_token.specs.inner.Lexing.{lex}
use Rattle.gf_token.specs.inner.Lexing.Mode.{Gap}

abbrev pub invariant-loop-at : Rattle.gf_token.proofs.scan.long_gap_end.Given.invariant-loop-at
invariant-loop-at l = lex Gap l.from (drop l.from l.input) ≡ lex Gap l.at (drop l.at l.input)

abbrev pub decreases-loop-at : Rattle.gf_token.proofs.scan.long_gap_end.Given.decreases-loop-at
decreases-loop-at l = length l.input - l.at
