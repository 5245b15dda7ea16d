use Rattle.std.proofs.Common.{◌≡◌, ◌≤◌, ◌<◌, ◌-◌, length, drop}
use Rattle.std.specs.Prelude.{slice_range}
use Rattle.gf_token.specs.inner.Lexing.{lex}
use Rattle.gf_token.specs.inner.Lexing.Mode.{Gap, InBare}

abbrev pub invariant-loop-at : Rattle.gf_token.proofs.scan.bare_end.Given.invariant-loop-at
invariant-loop-at l = record {
  within : l.at ≤ length l.input;
  begins : l.start < l.at;
  same : lex Gap l.start (drop l.start l.input)
      ≡ lex (InBare l.start (slice_range l.input l.start l.at)) l.at (drop l.at l.input);
}

abbrev pub decreases-loop-at : Rattle.gf_token.proofs.scan.bare_end.Given.decreases-loop-at
decreases-loop-at l = length l.input - l.at
