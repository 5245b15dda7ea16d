use Rattle.std.proofs.Common.{◌≤◌, ◌-◌, length}
use Rattle.gf_token.proofs.Steps.{IsOpen}

abbrev pub invariant-loop-at : Rattle.gf_token.proofs.scan.long_text_end.Given.invariant-loop-at
invariant-loop-at l = record {
  within : l.at ≤ length l.input;
  open_text : IsOpen l.input l.start l.at;
}

abbrev pub decreases-loop-at : Rattle.gf_token.proofs.scan.long_text_end.Given.decreases-loop-at
decreases-loop-at l = length l.input - l.at
